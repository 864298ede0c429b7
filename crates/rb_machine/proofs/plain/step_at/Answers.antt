use Rattle.std.proofs.Common.{◌≡◌, ◌∙◌, None, Some, ap, length, refl, slice_get, sym}
use Rattle.std.proofs.lemmas.Option.{same_Some, slice_get_past, slice_get_read}
use Rattle.rb_machine.specs.Plain as spec
use Rattle.rb_machine.proofs.plain.step_at.Goals as goal

pub returns-in-None : goal.returns-in-None
returns-in-None c p there = let e : None ≡ Some p = sym (slice_get_past c.args.places.now c.args.number c.in-None.ensures.lookup.3) ∙ there in cc

pub returns-in-Some : goal.returns-in-Some
returns-in-Some c p there =
    let l = c.in-Some.ensures.lookup in
    let at : slice_get c.args.places.now c.args.number ≡ Some c.in-Some.places.now = slice_get_read c.args.places.now (length c.args.places.now) c.args.number c.in-Some.places.now refl l.3.0 l.1 in
    c.pin_step.ensures ∙ ap (spec.pin_step c.args.field.now) (same_Some c.in-Some.places.now p (sym at ∙ there))
