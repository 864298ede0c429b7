use Rattle.std.proofs.Common.{◌∙◌, ap, arith, map, refl}
use Rattle.std.proofs.lemmas.List.{take_all}
use Rattle.rdl_values.specs.Overlaid.{overlaid, plain_of}
use Rattle.rdl_values.proofs.Plains.{plain-length}
use Rattle.rdl_values.specs.Seen.{bound_of}
use Rattle.rdl_bodies.proofs.Valued.{entry_at, values_more}
use Rattle.rdl_bodies.proofs.values.all_values.Goals as goal

pub loop-place-preserved : goal.loop-place-preserved
loop-place-preserved c =
    let ps = c.args.params.now in
    let k = c.loop-place.place in
    let t = map bound_of c.args.touched.now in
    values_more ps k _ t c.loop-place-test.true _ _ _ c.in_ok-push_value.ensures c.loop-place.invariant (c.value_of-value.ensures (plain_of ps) _ c.in_ok-defaults.ensures.0 (entry_at ps k _ c.loop-place-test.true) refl)

pub returns : goal.returns
returns c =
    let xs = plain_of c.args.params.now in
    let past = c.loop-place-test.false in
    let size = plain-length c.args.params.now in
    c.loop-place.invariant ∙ ap (λ ys. overlaid ys (map bound_of c.args.touched.now)) (take_all c.loop-place.place xs (omega (arith, past, size)))
