use Rattle.std.proofs.Common.{◌≡◌, ◌∙◌, ap, get_or}
use Rattle.rb_machine.specs.Slots.{no_slot}
use Rattle.rb_machine.specs.Table.{values_of}
use Rattle.rb_machine.proofs.Touching.{shown_by, shown_more, slot_fits}
use Rattle.rb_machine.proofs.slots.word_value.Goals as goal

pub slot_value-bits-requires-clause-in_field : goal.slot_value-bits-requires-clause-in_field
slot_value-bits-requires-clause-in_field c =
    let read = c.deref-slot-items.result.now in
    let e : read ≡ c.args.word.now.slots = c.deref-slot-items.ensures.value ∙ ap (λ w. w.slots) c.word.view_is in
    (slot_fits c.args.block.now c.args.word.now read c.loop-slot.slot-index no_slot c.view_at.result.now c.requires.sound c.requires.word e c.loop-slot-test.true c.view_at.ensures).in_field

pub loop-slot-preserved : goal.loop-slot-preserved
loop-slot-preserved c =
    let read = c.deref-slot-items.result.now in
    let v = values_of c.args.table.now in
    let s = get_or read c.loop-slot.slot-index no_slot in
    shown_more c.args.block.now v read c.loop-slot.slot-index no_slot c.loop-slot.bits c.slot_value-bits.result c.loop-slot-test.true c.loop-slot.invariant
    (shown_by c.args.block.now v s c.view_at.result.now c.slot_value-bits.result c.view_at.ensures c.slot_value-bits.ensures)
