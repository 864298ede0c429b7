use Rattle.rtl_net.proofs.Nets.{Extends-grows, Grows-trans}
use Rattle.gen_channels.proofs.Growing.{acts-extends, channels-grows, pins-grows}
use Rattle.gen_channels.proofs.slave.slave_nodes.Goals as goal

pub requested-requires-clause-pins : goal.requested-requires-clause-pins
requested-requires-clause-pins c = pins-grows c.args.net.now c.acting.new.net c.args.pins c.acting.ensures.older c.requires.pins

pub requested-requires-clause-kept : goal.requested-requires-clause-kept
requested-requires-clause-kept c = channels-grows c.args.net.now c.acting.new.net c.args.kept c.acting.ensures.older c.requires.kept

pub returns-clause-slave : goal.returns-clause-slave
returns-clause-slave c =
    let n0 = c.args.net.now in
    let n1 = c.acting.new.net in
    let n2 = c.requested.new.net in
    let g = Grows-trans n0 n1 n2 c.acting.ensures.older c.requested.ensures.older in
    record {
      pins = pins-grows n0 n2 c.args.pins g c.requires.pins;
      kept = channels-grows n0 n2 c.args.kept g c.requires.kept;
      acts = acts-extends n1 n2 (Extends-grows n1 n2 c.requested.ensures.older) c.in_ok-acts.acts c.in_ok-acts.ensures.acts;
      request = c.in_ok-request.ensures.request;
    }
