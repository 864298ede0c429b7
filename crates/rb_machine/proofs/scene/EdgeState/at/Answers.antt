use Rattle.std.proofs.Common.{◌≡◌, refl, ap, ◌∙◌}
use Rattle.std.proofs.lemmas.Option.{get_or_from_slice_get}
use Rattle.rb_machine.specs.Scene.{no_state}
use Rattle.rb_machine.proofs.Scenes.{has_places, is_at, read_at}
use Rattle.rb_machine.proofs.scene.EdgeState.at.Goals as goal

pub returns-in_err-places : goal.returns-in_err-places
returns-in_err-places c =
    let e : c.deref.result.now ≡ c.args.self.now.block.now.fields = c.deref.ensures.value ∙ ap (λ b. b.fields) c.block.view_is in
    let here = read_at _ c.args.self.now.block.now.fields c.args.number c.in_ok-field.field.now e c.in_ok-field.ensures.lookup.3.0 c.in_ok-field.ensures.lookup.1 in
    absurd (has_places c.args.self.now.block.now c.deref-2.result.now c.args.number c.in_ok-field.field.now (rw c.deref-2.ensures.value c.requires.planned.fields) here c.in_err-places.ensures.lookup.3)

pub returns : goal.returns
returns c =
    let e : c.deref.result.now ≡ c.args.self.now.block.now.fields = c.deref.ensures.value ∙ ap (λ b. b.fields) c.block.view_is in
    let here = read_at _ c.args.self.now.block.now.fields c.args.number c.in_ok-field.field.now e c.in_ok-field.ensures.lookup.3.0 c.in_ok-field.ensures.lookup.1 in
    let placed = read_at _ c.args.self.now.plan.now.fields.items c.args.number c.in_ok-places.places.now c.deref-2.ensures.value c.in_ok-places.ensures.lookup.3.0 c.in_ok-places.ensures.lookup.1 in
    let state = read_at _ c.args.self.now.held.now.fields.items c.args.number c.in_ok-state.state.now c.deref-3.ensures.value c.in_ok-state.ensures.lookup.3.0 c.in_ok-state.ensures.lookup.1 in
    is_at c.args.self.now c.args.table.now c.args.number _ c.requires here placed (get_or_from_slice_get _ c.args.number _ no_state state) refl refl
