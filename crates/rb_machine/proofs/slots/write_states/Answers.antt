use Rattle.std.proofs.Common.{◌≡◌, ◌<◌, ◌∙◌, ap, refl, sym, arith, get_or, length}
use Rattle.std.proofs.lemmas.Option.{get_or_from_slice_get, slice_get_read}
use Rattle.rb_model.specs.Items.{NoAccess}
use Rattle.rb_machine.specs.Scene.{no_state, now_in}
use Rattle.rb_machine.specs.Slots.{no_slot, write_state}
use Rattle.rb_machine.specs.Table.{values_of}
use Rattle.rb_machine.proofs.Touching.{slot_fits, slot_view, touched_all, touched_more, written_through}
use Rattle.rb_machine.proofs.slots.write_states.Goals as goal

pub view_at-view-requires : goal.view_at-view-requires
view_at-view-requires c =
    let read = c.deref-slot-items.result.now in
    let e : read ≡ c.args.word.now.slots = c.deref-slot-items.ensures.value ∙ ap (λ w. w.slots) c.word.view_is in
    slot_view c.args.scene.now.block.now c.args.word.now read c.loop-slot.slot-index no_slot c.requires.word e c.loop-slot-test.true

pub width_of-width-requires-clause-there : goal.width_of-width-requires-clause-there
width_of-width-requires-clause-there c =
    let read = c.deref-slot-items.result.now in
    let e : read ≡ c.args.word.now.slots = c.deref-slot-items.ensures.value ∙ ap (λ w. w.slots) c.word.view_is in
    let fits = slot_fits c.args.scene.now.block.now c.args.word.now read c.loop-slot.slot-index no_slot c.view_at-view.result.now c.requires.scene.sound c.requires.word e c.loop-slot-test.true c.view_at-view.ensures in
    fits.field

pub view_gate-gate-requires-clause-there : goal.view_gate-gate-requires-clause-there
view_gate-gate-requires-clause-there c = c.view_at-view.ensures

pub index-requires : goal.index-requires
index-requires c =
    let read = c.deref-slot-items.result.now in
    let e : read ≡ c.args.word.now.slots = c.deref-slot-items.ensures.value ∙ ap (λ w. w.slots) c.word.view_is in
    let fits = slot_fits c.args.scene.now.block.now c.args.word.now read c.loop-slot.slot-index no_slot c.view_at-view.result.now c.requires.scene.sound c.requires.word e c.loop-slot-test.true c.view_at-view.ensures in
    omega (arith, fits.field, c.requires.scene.held)

pub written_state-requires-clause-small : goal.written_state-requires-clause-small
written_state-requires-clause-small c = c.width_of-width.ensures.small

pub written_state-requires-clause-some : goal.written_state-requires-clause-some
written_state-requires-clause-some c =
    let read = c.deref-slot-items.result.now in
    let e : read ≡ c.args.word.now.slots = c.deref-slot-items.ensures.value ∙ ap (λ w. w.slots) c.word.view_is in
    let fits = slot_fits c.args.scene.now.block.now c.args.word.now read c.loop-slot.slot-index no_slot c.view_at-view.result.now c.requires.scene.sound c.requires.word e c.loop-slot-test.true c.view_at-view.ensures in
    fits.some_bit

pub written_state-requires-clause-within : goal.written_state-requires-clause-within
written_state-requires-clause-within c =
    let read = c.deref-slot-items.result.now in
    let e : read ≡ c.args.word.now.slots = c.deref-slot-items.ensures.value ∙ ap (λ w. w.slots) c.word.view_is in
    let fits = slot_fits c.args.scene.now.block.now c.args.word.now read c.loop-slot.slot-index no_slot c.view_at-view.result.now c.requires.scene.sound c.requires.word e c.loop-slot-test.true c.view_at-view.ensures in
    fits.in_word

pub bounds-states-number : goal.bounds-states-number
bounds-states-number c =
    let read = c.deref-slot-items.result.now in
    let e : read ≡ c.args.word.now.slots = c.deref-slot-items.ensures.value ∙ ap (λ w. w.slots) c.word.view_is in
    let fits = slot_fits c.args.scene.now.block.now c.args.word.now read c.loop-slot.slot-index no_slot c.view_at-view.result.now c.requires.scene.sound c.requires.word e c.loop-slot-test.true c.view_at-view.ensures in
    omega (arith, fits.field, c.loop-slot.auto.states, c.requires.sized)

pub loop-slot-preserved : goal.loop-slot-preserved
loop-slot-preserved c =
    let s = c.args.scene.now in
    let b = s.block.now in
    let n = now_in s NoAccess in
    let v = values_of c.args.table.now in
    let read = c.deref-slot-items.result.now in
    let e : read ≡ c.args.word.now.slots = c.deref-slot-items.ensures.value ∙ ap (λ w. w.slots) c.word.view_is in
    let w = c.view_at-view.result.now in
    let fits = slot_fits b c.args.word.now read c.loop-slot.slot-index no_slot w c.requires.scene.sound c.requires.word e c.loop-slot-test.true c.view_at-view.ensures in
    let states = s.held.now.fields.items in
    let low : w.field < length states = omega (arith, fits.field, c.requires.scene.held) in
    let held : get_or states w.field no_state ≡ c.index.result.now = get_or_from_slice_get states w.field c.index.result.now no_state (slice_get_read states (length states) w.field c.index.result.now refl low c.index.ensures) in
    touched_more b (write_state b n v c.args.bits) no_state read c.loop-slot.slot-index no_slot w c.args.states.now c.loop-slot.states w.field _ c.loop-slot-test.true c.view_at-view.ensures refl
    (omega (arith, fits.field, c.loop-slot.auto.states, c.requires.sized))
    (written_through b n v w (get_or read c.loop-slot.slot-index no_slot) c.width_of-width.result c.view_gate-gate.result _ c.args.bits (get_or c.loop-slot.states w.field no_state) c.written_state.result
    c.width_of-width.ensures.width c.view_gate-gate.ensures (ap (λ x. x.done) (sym held)) c.written_state.ensures) c.loop-slot.invariant

pub returns : goal.returns
returns c =
    let s = c.args.scene.now in
    let b = s.block.now in
    let n = now_in s NoAccess in
    let v = values_of c.args.table.now in
    let read = c.deref-slot-items.result.now in
    let e : read ≡ c.args.word.now.slots = c.deref-slot-items.ensures.value ∙ ap (λ w. w.slots) c.word.view_is in
    touched_all b (write_state b n v c.args.bits) no_state read c.args.word.now.slots c.loop-slot.slot-index c.args.states.now c.loop-slot.states e c.loop-slot-test.false c.loop-slot.invariant
