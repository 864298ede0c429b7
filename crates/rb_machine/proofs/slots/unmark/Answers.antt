use Rattle.std.proofs.Common.{◌≡◌, ◌∙◌, ap, refl, arith}
use Rattle.rb_machine.specs.Scene.{no_mark}
use Rattle.rb_machine.specs.Slots.{no_slot}
use Rattle.rb_machine.proofs.Touching.{slot_fits, slot_view, touched_all, touched_more}
use Rattle.rb_machine.proofs.slots.unmark.Goals as goal

pub view_at-view-requires : goal.view_at-view-requires
view_at-view-requires c =
    let read = c.deref-slot-items.result.now in
    let e : read ≡ c.args.word.now.slots = c.deref-slot-items.ensures.value ∙ ap (λ w. w.slots) c.word.view_is in
    slot_view c.args.block.now c.args.word.now read c.loop-slot.slot-index no_slot c.requires.word e c.loop-slot-test.true

pub loop-slot-preserved : goal.loop-slot-preserved
loop-slot-preserved c =
    let b = c.args.block.now in
    let read = c.deref-slot-items.result.now in
    let e : read ≡ c.args.word.now.slots = c.deref-slot-items.ensures.value ∙ ap (λ w. w.slots) c.word.view_is in
    let w = c.view_at-view.result.now in
    let fits = slot_fits b c.args.word.now read c.loop-slot.slot-index no_slot w c.requires.sound c.requires.word e c.loop-slot-test.true c.view_at-view.ensures in
    touched_more b (λ w s m. no_mark) no_mark read c.loop-slot.slot-index no_slot w c.args.marks.now c.loop-slot.marks w.field no_mark c.loop-slot-test.true c.view_at-view.ensures refl
    (omega (arith, fits.field, c.loop-slot.auto.marks, c.requires.sized)) refl c.loop-slot.invariant

pub returns : goal.returns
returns c =
    let b = c.args.block.now in
    let read = c.deref-slot-items.result.now in
    let e : read ≡ c.args.word.now.slots = c.deref-slot-items.ensures.value ∙ ap (λ w. w.slots) c.word.view_is in
    touched_all b (λ w s m. no_mark) no_mark read c.args.word.now.slots c.loop-slot.slot-index c.args.marks.now c.loop-slot.marks e c.loop-slot-test.false c.loop-slot.invariant
