use Rattle.std.proofs.Common.{◌≡◌, ◌∙◌, ap}
use Rattle.rb_model.specs.declared.block.Slot.{Slot}
use Rattle.gen_access.specs.Touches.{one_bit, slot_mark, touch_reached, touches}
use Rattle.gen_access.proofs.Loops.{slots_next, slots_end}
use Rattle.gen_access.proofs.touched.Marking.word.Goals as goal

abbrev no_slot : Slot
no_slot = record { view = 0; low = 0; from = 0; bits = 0 }

pub loop-slot-preserved : goal.loop-slot-preserved
loop-slot-preserved c =
    let b = c.args.self.now.base.now.block.now in
    let t = c.args.self.now.touch in
    let each = slot_mark b c.args.self.now.wanted.now c.args.self.now.mark t in
    slots_next b c.args.self.now.base.now.inlet c.args.net.now c.args.table.now one_bit (touch_reached t) each (touches t) c.args.hit c.deref-slot-items.result.now
    c.loop-slot.net c.slot.new.net c.loop-slot.table c.slot.new.table c.loop-slot.slot-index no_slot c.loop-slot-test.true c.loop-slot.invariant
    c.in_ok-slot.ensures.older c.in_ok-slot.ensures.name c.in_ok-slot.ensures.table c.in_ok-slot.ensures.changes

pub returns-clause-changes : goal.returns-clause-changes
returns-clause-changes c =
    let b = c.args.self.now.base.now.block.now in
    let t = c.args.self.now.touch in
    let each = slot_mark b c.args.self.now.wanted.now c.args.self.now.mark t in
    let same : c.deref-slot-items.result.now ≡ c.args.word.now.slots = c.deref-slot-items.ensures.value ∙ ap (λ w. w.slots) c.word.view_is in
    slots_end b c.args.self.now.base.now.inlet c.args.net.now c.args.table.now one_bit (touch_reached t) each (touches t) c.args.hit c.deref-slot-items.result.now
    c.loop-slot.net c.loop-slot.table c.loop-slot.slot-index c.args.word.now.slots same c.loop-slot-test.false c.loop-slot.invariant
