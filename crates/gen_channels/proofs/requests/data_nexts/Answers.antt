use Rattle.std.proofs.Common.{◌==◌, ◌&&◌, if◌then◌else◌}
use Rattle.rtl_net.specs.Value.{bit_of}
use Rattle.rtl_net.proofs.Nets.{Grows-trans, IsNode-grows, Stands-grows}
use Rattle.axi_model.specs.Channels.{takes_data, writes}
use Rattle.gen_channels.specs.Nodes.{kept_seen, pins_seen}
use Rattle.gen_channels.proofs.Nexting.{bit_is, chosen_is, taken_is}
use Rattle.gen_channels.proofs.requests.data_nexts.Goals as goal

pub returns-clause-w : goal.returns-clause-w
returns-clause-w c =
    let n0 = c.args.net.now in
    let n1 = c.taken.new.net in
    let n2 = c.request_bit.new.net in
    let n4 = c.choose-2.new.net in
    let k = c.args.slave.kept in
    let takes = taken_is n0 n1 c.args.slave.pins.wvalid k.w c.in_ok-takes.takes (λ v. (pins_seen v).wvalid) (λ v. (kept_seen v).w) c.taken.ensures.older c.in_ok-takes.ensures.taken c.requires.pins.wvalid c.requires.kept.w in
    IsNode-grows n2 n4 c.in_ok-w.w 1 (λ v. if writes (pins_seen v) (kept_seen v) then 0 else (if takes_data (pins_seen v) (kept_seen v) then 1 else (kept_seen v).w)) (Grows-trans n2 c.choose.new.net n4 c.choose.ensures.older c.choose-2.ensures.older)
    (bit_is n1 n2 c.args.slave.acts.writes c.in_ok-takes.takes k.w c.in_ok-w.w (λ v. writes (pins_seen v) (kept_seen v)) (λ v. takes_data (pins_seen v) (kept_seen v)) (λ v. (kept_seen v).w) c.request_bit.ensures.older c.in_ok-w.ensures.bit
    (IsNode-grows n0 n1 c.args.slave.acts.writes 1 (λ v. bit_of (writes (pins_seen v) (kept_seen v))) c.taken.ensures.older c.requires.acts.writing) takes (IsNode-grows n0 n1 k.w 1 (λ v. (kept_seen v).w) c.taken.ensures.older c.requires.kept.w))

pub returns-clause-wdata : goal.returns-clause-wdata
returns-clause-wdata c =
    let n0 = c.args.net.now in
    let n1 = c.taken.new.net in
    let n2 = c.request_bit.new.net in
    let n3 = c.choose.new.net in
    let p = c.args.slave.pins in
    let k = c.args.slave.kept in
    let g02 = Grows-trans n0 n1 n2 c.taken.ensures.older c.request_bit.ensures.older in
    let takes = taken_is n0 n1 p.wvalid k.w c.in_ok-takes.takes (λ v. (pins_seen v).wvalid) (λ v. (kept_seen v).w) c.taken.ensures.older c.in_ok-takes.ensures.taken c.requires.pins.wvalid c.requires.kept.w in
    IsNode-grows n3 c.choose-2.new.net c.in_ok-wdata.wdata 32 (λ v. if takes_data (pins_seen v) (kept_seen v) then (pins_seen v).wdata else (kept_seen v).wdata) c.choose-2.ensures.older
    (chosen_is n2 n3 c.in_ok-takes.takes p.wdata k.wdata c.in_ok-wdata.wdata 32 _ (λ v. takes_data (pins_seen v) (kept_seen v)) (λ v. (pins_seen v).wdata) (λ v. (kept_seen v).wdata)
    c.choose.ensures.older (Stands-grows n0 n2 p.wdata 32 g02 c.requires.pins.wdata.stands).width c.in_ok-wdata.ensures.node
    (IsNode-grows n1 n2 c.in_ok-takes.takes 1 (λ v. bit_of (takes_data (pins_seen v) (kept_seen v))) c.request_bit.ensures.older takes)
    (IsNode-grows n0 n2 p.wdata 32 (λ v. (pins_seen v).wdata) g02 c.requires.pins.wdata) (IsNode-grows n0 n2 k.wdata 32 (λ v. (kept_seen v).wdata) g02 c.requires.kept.wdata))

pub returns-clause-wstrb : goal.returns-clause-wstrb
returns-clause-wstrb c =
    let n0 = c.args.net.now in
    let n1 = c.taken.new.net in
    let n2 = c.request_bit.new.net in
    let n3 = c.choose.new.net in
    let p = c.args.slave.pins in
    let k = c.args.slave.kept in
    let g13 = Grows-trans n1 n2 n3 c.request_bit.ensures.older c.choose.ensures.older in
    let g03 = Grows-trans n0 n1 n3 c.taken.ensures.older g13 in
    let takes = taken_is n0 n1 p.wvalid k.w c.in_ok-takes.takes (λ v. (pins_seen v).wvalid) (λ v. (kept_seen v).w) c.taken.ensures.older c.in_ok-takes.ensures.taken c.requires.pins.wvalid c.requires.kept.w in
    chosen_is n3 c.choose-2.new.net c.in_ok-takes.takes p.wstrb k.wstrb c.in_ok-wstrb.wstrb 4 _ (λ v. takes_data (pins_seen v) (kept_seen v)) (λ v. (pins_seen v).wstrb) (λ v. (kept_seen v).wstrb)
    c.choose-2.ensures.older (Stands-grows n0 n3 p.wstrb 4 g03 c.requires.pins.wstrb.stands).width c.in_ok-wstrb.ensures.node
    (IsNode-grows n1 n3 c.in_ok-takes.takes 1 (λ v. bit_of (takes_data (pins_seen v) (kept_seen v))) g13 takes)
    (IsNode-grows n0 n3 p.wstrb 4 (λ v. (pins_seen v).wstrb) g03 c.requires.pins.wstrb) (IsNode-grows n0 n3 k.wstrb 4 (λ v. (kept_seen v).wstrb) g03 c.requires.kept.wstrb)
