use Rattle.rtl_net.specs.Value.{bit_of}
use Rattle.rtl_net.proofs.Nets.{Grows-trans, IsNode-grows}
use Rattle.axi_model.specs.Channels.{can_read, writes}
use Rattle.gen_channels.specs.Nodes.{kept_seen, pins_seen}
use Rattle.gen_channels.proofs.Growing.{channels-grows, pins-grows}
use Rattle.gen_channels.proofs.acts.acting.Goals as goal

pub ready-requires-clause-kept : goal.ready-requires-clause-kept
ready-requires-clause-kept c = channels-grows c.args.net.now c.writing.new.net c.args.kept c.writing.ensures.older c.requires.kept

pub reading-requires-clause-pins : goal.reading-requires-clause-pins
reading-requires-clause-pins c =
    pins-grows c.args.net.now c.ready.new.net c.args.pins (Grows-trans c.args.net.now c.writing.new.net c.ready.new.net c.writing.ensures.older c.ready.ensures.older) c.requires.pins

pub returns-clause-acts : goal.returns-clause-acts
returns-clause-acts c =
    let n1 = c.writing.new.net in
    let n2 = c.ready.new.net in
    let n3 = c.reading.new.net in
    record {
      writing = IsNode-grows n1 n3 c.in_ok-writes.writes 1 (λ v. bit_of (writes (pins_seen v) (kept_seen v))) (Grows-trans n1 n2 n3 c.ready.ensures.older c.reading.ensures.older) c.in_ok-writes.ensures.writes;
      reading = c.in_ok-reads.ensures.reads;
      readying = IsNode-grows n2 n3 c.in_ok-ready.ready 1 (λ v. bit_of (can_read (pins_seen v) (kept_seen v))) c.reading.ensures.older c.in_ok-ready.ensures.ready;
    }
