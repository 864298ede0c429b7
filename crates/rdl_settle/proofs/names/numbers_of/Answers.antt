use Rattle.std.proofs.Common.{◌≡◌, ◌∙◌, length, slice_get, ap, arith, subst, sym}
use Rattle.rdl_settle.proofs.Naming.{AreFirst, first_all, first_more}
use Rattle.rdl_settle.proofs.names.numbers_of.Goals as goal

pub bodies-preserved : goal.bodies-preserved
bodies-preserved c =
    let list = c.args.bodies.now.list.items in
    let size : length c.bodies.list.items ≡ c.len.result = omega (arith, c.bodies.list.ok.0) in
    subst (AreFirst list) (sym c.in_ok-push.ensures.items)
    (first_more list c.bodies.list.items c.in-Some.body c.in_ok-kept.field-0 c.bodies.invariant (ap (slice_get list) size ∙ sym c.body.ensures ∙ c.in-Some.is) c.in_ok-kept.ensures)

pub returns : goal.returns
returns c =
    let list = c.args.bodies.now.list.items in
    let size : length c.bodies.list.items ≡ c.len.result = omega (arith, c.bodies.list.ok.0) in
    first_all list c.bodies.list.items c.bodies.invariant (ap (slice_get list) size ∙ sym c.body.ensures ∙ c.in_default.is)
