use Rattle.std.proofs.Common.{length, map, ap, refl, sym, ◌∙◌, subst}
use Rattle.rtl_net.proofs.Nets.{Extends-grows, Extends-trans, Keeps-grows}
use Rattle.gen_ports.specs.Registers.{AreCleared, CanAdd, HaveNames, HaveWidths, TakeNexts, pin_of}
use Rattle.gen_channels.proofs.Growing.{pins-extends, slave-extends}
use Rattle.axi_lite.specs.Tables.{own_registers}
use Rattle.axi_lite.proofs.Tying.{cleared-keeps, in_order, keeps_from, nexts_wide, own_named, resetn-extends}
use Rattle.axi_lite.proofs.tied.slave_port.Goals as goal

pub cleared_registers-requires-clause-rows : goal.cleared_registers-requires-clause-rows
cleared_registers-requires-clause-rows c = subst (CanAdd c.args.net.now) (sym c.register_table.ensures) c.requires.new

pub channel_nodes-requires : goal.channel_nodes-requires
channel_nodes-requires c = ap length c.deref.ensures.value ∙ c.in_ok-kept.ensures.cleared.long ∙ ap length c.register_table.ensures

pub slave_nodes-requires-clause-pins : goal.slave_nodes-requires-clause-pins
slave_nodes-requires-clause-pins c = pins-extends c.args.net.now c.cleared_registers.new.net c.cleared_registers.ensures.older c.args.pins c.requires.pins

pub slave_nodes-requires-clause-kept : goal.slave_nodes-requires-clause-kept
slave_nodes-requires-clause-kept c =
    let n1 = c.cleared_registers.new.net in
    let r = c.args.pins.resetn in
    c.channel_nodes.ensures n1 r (subst (λ ids. AreCleared n1 r own_registers ids) (sym c.deref.ensures.value) (subst (λ ps. AreCleared n1 r ps c.in_ok-kept.kept.items) c.register_table.ensures c.in_ok-kept.ensures.cleared))

pub drive_in_turn-requires-clause-resetn : goal.drive_in_turn-requires-clause-resetn
drive_in_turn-requires-clause-resetn c =
    let n0 = c.args.net.now in
    let n1 = c.cleared_registers.new.net in
    let n2 = c.slave_nodes.new.net in
    let n3 = c.next_nodes.new.net in
    resetn-extends n0 n3 c.args.pins.resetn
    (Extends-trans n0 n1 n3 c.cleared_registers.ensures.older (Extends-trans n1 n2 n3 (Extends-grows n1 n2 c.slave_nodes.ensures.older) (Extends-grows n2 n3 c.next_nodes.ensures.older))) c.requires.resetn

pub drive_in_turn-requires-clause-names : goal.drive_in_turn-requires-clause-names
drive_in_turn-requires-clause-names c = subst HaveNames (sym c.register_table-2.ensures) own_named

pub drive_in_turn-requires-clause-cleared : goal.drive_in_turn-requires-clause-cleared
drive_in_turn-requires-clause-cleared c =
    let n1 = c.cleared_registers.new.net in
    let n2 = c.slave_nodes.new.net in
    let n3 = c.next_nodes.new.net in
    let r = c.args.pins.resetn in
    let x13 = Extends-trans n1 n2 n3 (Extends-grows n1 n2 c.slave_nodes.ensures.older) (Extends-grows n2 n3 c.next_nodes.ensures.older) in
    let k12 = Keeps-grows n1 n2 c.slave_nodes.ensures.older in
    let k23 = Keeps-grows n2 n3 c.next_nodes.ensures.older in
    subst (λ ids. AreCleared n3 r (map pin_of c.register_table-2.result.now) ids) (sym c.deref-2.ensures.value)
    (subst (λ ps. AreCleared n3 r ps c.in_ok-kept.kept.items) (c.register_table.ensures ∙ sym c.register_table-2.ensures)
    (cleared-keeps n1 n3 r (map pin_of c.register_table.result.now) c.in_ok-kept.kept.items x13 (record { awaits = λ id name w reset a. k23.awaits id name w reset (k12.awaits id name w reset a) }) c.in_ok-kept.ensures.cleared))

pub drive_in_turn-requires-clause-nexts : goal.drive_in_turn-requires-clause-nexts
drive_in_turn-requires-clause-nexts c =
    subst (λ ps. HaveWidths c.next_nodes.new.net ps (in_order c.in_ok-next.next)) (sym c.register_table-2.ensures) (nexts_wide c.args.block.now c.next_nodes.new.net c.in_ok-next.next (in_order c.in_ok-next.next) refl c.in_ok-next.ensures.nexts)

pub returns-clause-slave : goal.returns-clause-slave
returns-clause-slave c =
    let n2 = c.slave_nodes.new.net in
    let n3 = c.next_nodes.new.net in
    let n4 = c.drive_in_turn.new.net in
    slave-extends n2 n4 (Extends-trans n2 n3 n4 (Extends-grows n2 n3 c.next_nodes.ensures.older) c.drive_in_turn.ensures.older) c.args.block.now c.in_ok-slave.slave c.in_ok-slave.ensures.slave

pub returns-clause-keeps : goal.returns-clause-keeps
returns-clause-keeps c =
    let n3 = c.next_nodes.new.net in
    let n4 = c.drive_in_turn.new.net in
    keeps_from c.args.block.now n3 n4 c.in_ok-next.next (in_order c.in_ok-next.next) refl c.drive_in_turn.ensures.older c.in_ok-next.ensures.nexts (subst (λ ps. TakeNexts n4 ps (in_order c.in_ok-next.next)) c.register_table-2.ensures c.drive_in_turn.ensures.taken)

pub returns-clause-older : goal.returns-clause-older
returns-clause-older c =
    let n0 = c.args.net.now in
    let n1 = c.cleared_registers.new.net in
    let n2 = c.slave_nodes.new.net in
    let n3 = c.next_nodes.new.net in
    let n4 = c.drive_in_turn.new.net in
    let x24 = Extends-trans n2 n3 n4 (Extends-grows n2 n3 c.next_nodes.ensures.older) c.drive_in_turn.ensures.older in
    Extends-trans n0 n1 n4 c.cleared_registers.ensures.older (Extends-trans n1 n2 n4 (Extends-grows n1 n2 c.slave_nodes.ensures.older) x24)
