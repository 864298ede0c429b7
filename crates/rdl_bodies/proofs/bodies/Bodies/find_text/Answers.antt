use Rattle.std.proofs.Common.{length, refl, subst, ◌≡◌, Some, slice_get}
use Rattle.std.proofs.lemmas.Option.{slice_get_read}
use Rattle.rdl_bodies.proofs.bodies.Bodies.find_text.Goals as goal

pub returns-in-Some : goal.returns-in-Some
returns-in-Some c =
    let there = c.in-Some.ensures.lookup in
    let list = c.deref.result.now in (
      c.in-Some.text.now,
      subst (λ xs. slice_get xs c.in_ok-number.number ≡ Some c.in-Some.text.now) c.deref.ensures.value (slice_get_read list (length list) c.in_ok-number.number c.in-Some.text.now refl there.3.0 there.1),
      c.is_at.ensures c.if-is_at.true,
    )
