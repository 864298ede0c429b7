use Rattle.std.proofs.Common.{◌≡◌, ◌∙◌, length, slice_get, ap, arith, refl, subst, sym}
use Rattle.rdl_bodies.specs.Sited.{own_names}
use Rattle.rdl_facts.proofs.Along.{AreTo, to_all, to_more}
use Rattle.rdl_facts.proofs.table.EnumNumbers.of.Goals as goal

pub bodies-preserved : goal.bodies-preserved
bodies-preserved c =
    let size : length c.bodies.list.items ≡ c.len.result = omega (arith, c.bodies.list.ok.0) in
    subst (λ xs. AreTo xs c.args.bodies.now) (sym c.in_ok-push.ensures.items)
    (to_more c.bodies.list.items c.args.bodies.now c.in_ok-enums.enums c.in-Some.body (ap (slice_get c.args.bodies.now.list.items) size ∙ sym c.body.ensures ∙ c.in-Some.is) (c.in_ok-enums.ensures (own_names c.in-Some.body) refl) c.bodies.invariant)

pub returns : goal.returns
returns c =
    let size : length c.bodies.list.items ≡ c.len.result = omega (arith, c.bodies.list.ok.0) in
    to_all (record { bodies = c.bodies.list }) c.args.bodies.now (ap (slice_get c.args.bodies.now.list.items) size ∙ sym c.body.ensures ∙ c.in_default.is) c.bodies.invariant
