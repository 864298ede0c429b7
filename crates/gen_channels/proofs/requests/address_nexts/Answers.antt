use Rattle.std.proofs.Common.{◌==◌, ◌&&◌, if◌then◌else◌}
use Rattle.rtl_net.specs.Value.{bit_of}
use Rattle.rtl_net.proofs.Nets.{Grows-trans, IsNode-grows, Stands-grows}
use Rattle.axi_model.specs.Channels.{takes_address, writes}
use Rattle.gen_channels.specs.Nodes.{kept_seen, pins_seen}
use Rattle.gen_channels.proofs.Nexting.{bit_is, chosen_is, taken_is}
use Rattle.gen_channels.proofs.requests.address_nexts.Goals as goal

pub returns-clause-aw : goal.returns-clause-aw
returns-clause-aw c =
    let n0 = c.args.net.now in
    let n1 = c.taken.new.net in
    let n2 = c.request_bit.new.net in
    let takes = taken_is n0 n1 c.args.slave.pins.awvalid c.args.slave.kept.aw c.in_ok-takes.takes (λ v. (pins_seen v).awvalid) (λ v. (kept_seen v).aw) c.taken.ensures.older c.in_ok-takes.ensures.taken c.requires.pins.awvalid c.requires.kept.aw in
    IsNode-grows n2 c.choose.new.net c.in_ok-aw.aw 1 (λ v. if writes (pins_seen v) (kept_seen v) then 0 else (if takes_address (pins_seen v) (kept_seen v) then 1 else (kept_seen v).aw)) c.choose.ensures.older
    (bit_is n1 n2 c.args.slave.acts.writes c.in_ok-takes.takes c.args.slave.kept.aw c.in_ok-aw.aw (λ v. writes (pins_seen v) (kept_seen v)) (λ v. takes_address (pins_seen v) (kept_seen v)) (λ v. (kept_seen v).aw) c.request_bit.ensures.older c.in_ok-aw.ensures.bit
    (IsNode-grows n0 n1 c.args.slave.acts.writes 1 (λ v. bit_of (writes (pins_seen v) (kept_seen v))) c.taken.ensures.older c.requires.acts.writing) takes (IsNode-grows n0 n1 c.args.slave.kept.aw 1 (λ v. (kept_seen v).aw) c.taken.ensures.older c.requires.kept.aw))

pub returns-clause-awaddr : goal.returns-clause-awaddr
returns-clause-awaddr c =
    let n0 = c.args.net.now in
    let n1 = c.taken.new.net in
    let n2 = c.request_bit.new.net in
    let g02 = Grows-trans n0 n1 n2 c.taken.ensures.older c.request_bit.ensures.older in
    let takes = taken_is n0 n1 c.args.slave.pins.awvalid c.args.slave.kept.aw c.in_ok-takes.takes (λ v. (pins_seen v).awvalid) (λ v. (kept_seen v).aw) c.taken.ensures.older c.in_ok-takes.ensures.taken c.requires.pins.awvalid c.requires.kept.aw in
    chosen_is n2 c.choose.new.net c.in_ok-takes.takes c.args.slave.pins.awaddr c.args.slave.kept.awaddr c.in_ok-awaddr.awaddr 32 _ (λ v. takes_address (pins_seen v) (kept_seen v)) (λ v. (pins_seen v).awaddr) (λ v. (kept_seen v).awaddr)
    c.choose.ensures.older (Stands-grows n0 n2 c.args.slave.pins.awaddr 32 g02 c.requires.pins.awaddr.stands).width c.in_ok-awaddr.ensures.node
    (IsNode-grows n1 n2 c.in_ok-takes.takes 1 (λ v. bit_of (takes_address (pins_seen v) (kept_seen v))) c.request_bit.ensures.older takes)
    (IsNode-grows n0 n2 c.args.slave.pins.awaddr 32 (λ v. (pins_seen v).awaddr) g02 c.requires.pins.awaddr) (IsNode-grows n0 n2 c.args.slave.kept.awaddr 32 (λ v. (kept_seen v).awaddr) g02 c.requires.kept.awaddr)
