use Rattle.std.proofs.Common.{◌≡◌, ◌∙◌, ap, refl, arith, get_or}
use Rattle.rb_machine.specs.Scene.{no_state}
use Rattle.rb_machine.specs.Slots.{no_slot, read_state}
use Rattle.rb_machine.proofs.Touching.{read_through, slot_fits, slot_view, touched_all, touched_more}
use Rattle.rb_machine.proofs.slots.read_states.Goals as goal

pub view_at-view-requires : goal.view_at-view-requires
view_at-view-requires c =
    let read = c.deref-slot-items.result.now in
    let e : read ≡ c.args.word.now.slots = c.deref-slot-items.ensures.value ∙ ap (λ w. w.slots) c.word.view_is in
    slot_view c.args.block.now c.args.word.now read c.loop-slot.slot-index no_slot c.requires.word e c.loop-slot-test.true

pub width_of-width-requires-clause-there : goal.width_of-width-requires-clause-there
width_of-width-requires-clause-there c =
    let read = c.deref-slot-items.result.now in
    let e : read ≡ c.args.word.now.slots = c.deref-slot-items.ensures.value ∙ ap (λ w. w.slots) c.word.view_is in
    let fits = slot_fits c.args.block.now c.args.word.now read c.loop-slot.slot-index no_slot c.view_at-view.result.now c.requires.sound c.requires.word e c.loop-slot-test.true c.view_at-view.ensures in
    fits.field

pub loop-slot-preserved : goal.loop-slot-preserved
loop-slot-preserved c =
    let b = c.args.block.now in
    let read = c.deref-slot-items.result.now in
    let e : read ≡ c.args.word.now.slots = c.deref-slot-items.ensures.value ∙ ap (λ w. w.slots) c.word.view_is in
    let w = c.view_at-view.result.now in
    let fits = slot_fits b c.args.word.now read c.loop-slot.slot-index no_slot w c.requires.sound c.requires.word e c.loop-slot-test.true c.view_at-view.ensures in
    touched_more b (read_state b) no_state read c.loop-slot.slot-index no_slot w c.args.states.now c.loop-slot.states w.field _ c.loop-slot-test.true c.view_at-view.ensures refl
    (omega (arith, fits.field, c.loop-slot.auto.states, c.requires.sized)) (read_through b w (get_or read c.loop-slot.slot-index no_slot) c.width_of-width.result c.after_read.result (get_or c.loop-slot.states w.field no_state) c.width_of-width.ensures.width c.after_read.ensures) c.loop-slot.invariant

pub returns : goal.returns
returns c =
    let b = c.args.block.now in
    let read = c.deref-slot-items.result.now in
    let e : read ≡ c.args.word.now.slots = c.deref-slot-items.ensures.value ∙ ap (λ w. w.slots) c.word.view_is in
    touched_all b (read_state b) no_state read c.args.word.now.slots c.loop-slot.slot-index c.args.states.now c.loop-slot.states e c.loop-slot-test.false c.loop-slot.invariant
