use Rattle.std.proofs.Common.{◌≡◌, ◌<◌, ◌∙◌, arith, length, refl}
use Rattle.std.proofs.lemmas.Option.{get_or_from_slice_get, slice_get_within}
use Rattle.rb_model.specs.Items.{NoAccess}
use Rattle.rb_machine.specs.Scene.{now_in}
use Rattle.rb_machine.proofs.Scenes.{gate_seen}
use Rattle.rb_machine.proofs.slots.view_gate.Goals as goal

pub index-place-requires : goal.index-place-requires
index-place-requires c =
    let (place, there, is) = c.requires.scene.planned.gates c.args.number c.args.view.now c.requires.there in
    let gates = c.args.scene.now.plan.now.gates in
    let l : c.args.number < length gates.items = slice_get_within gates.items c.args.number place there in
    omega (arith, l, gates.ok.0)

pub returns : goal.returns
returns c =
    let s = c.args.scene.now in
    let (place, there, is) = c.requires.scene.planned.gates c.args.number c.args.view.now c.requires.there in
    let same : c.index-place.result.now ≡ place = c.index-place.ensures ∙ get_or_from_slice_get s.plan.now.gates.items c.args.number place c.index-place.result.now there in
    let seen = gate_seen s.block.now c.requires.scene.sound (now_in s NoAccess) s.pins.now refl c.requires.scene.pins c.args.view.now.gate _ _ c.args.view.now.path place is in
    c.gated.ensures (now_in s NoAccess) _ _ c.args.view.now.path (rw (c.number_at.ensures, same) seen)
