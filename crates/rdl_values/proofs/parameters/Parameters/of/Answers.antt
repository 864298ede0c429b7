use Rattle.std.proofs.Common.{◌∙◌, ◌∷◌, [], ap, get_or, map, subst, sym, take}
use Rattle.std.proofs.lemmas.List.{map-append, take_all, take_more}
use Rattle.rdl_values.specs.Kept.{AreDefaults}
use Rattle.rdl_values.specs.Over.{IsOver}
use Rattle.rdl_values.specs.Seen.{bound_of}
use Rattle.rdl_values.proofs.Walking.{apart_take}
use Rattle.rdl_values.proofs.parameters.Parameters.of.Goals as goal

pub loop-bound-preserved : goal.loop-bound-preserved
loop-bound-preserved c = λ xs h.
    let bs = c.args.touched.now in
    let i = c.loop-bound.bound-index in
    subst (IsOver c.put.new.self xs 0) (sym (ap (map bound_of) (take_more bs i _ c.loop-bound-test.true) ∙ map-append bound_of (take i bs) (get_or bs i _ ∷ []))) (c.in_ok-put.ensures xs 0 (map bound_of (take i bs)) (c.loop-bound.invariant xs h))

pub returns : goal.returns
returns c = λ xs h apart.
    let all = take_all c.loop-bound.bound-index c.args.touched.now c.loop-bound-test.false in
    let over = subst (λ bs. IsOver c.loop-bound.parameters xs 0 (map bound_of bs)) all (c.loop-bound.invariant xs h) in
    let size = c.len-upto.ensures xs (subst (λ d. AreDefaults d xs) (sym c.deref.ensures) h) in
    subst (λ u. IsOver c.see.new.self xs u (map bound_of c.args.touched.now)) size (c.see.ensures xs 0 (map bound_of c.args.touched.now) over (apart_take xs c.len-upto.result apart))
