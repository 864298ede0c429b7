use Rattle.std.proofs.Common.{None, not, get_or, ap, sym, ◌∙◌, arith}
use Rattle.plain_lemmas.proofs.Lists.{any-default, get-at, get-within}
use Rattle.topological_order.proofs.Ranked.{more-ranked, ranked-from}
use Rattle.topological_order.proofs.ranking.unranked_need.Goals as goal

pub loop-place-preserved : goal.loop-place-preserved
loop-place-preserved c =
    let ranks = c.args.ranks.now in
    let needs = c.args.needs.now in
    let need = get_or needs c.loop-place.place 0 in
    let at = get-at needs c.loop-place.place 0 c.loop-place-test.true in
    more-ranked ranks needs c.args.from c.loop-place.place need at
    (ranked-from ranks need c.index-ranks-needs.result (any-default ranks need None c.index-ranks-needs.result (c.requires c.loop-place.place need at) ∙ sym c.index-ranks-needs.is) (c.is_none.ensures ∙ ap not c.if-is_none.false))
    c.loop-place.invariant

pub returns-clause-none : goal.returns-clause-none
returns-clause-none c = λ i j a at. c.loop-place.invariant i j a (let l = get-within c.args.needs.now i j at in let e = c.loop-place-test.false in omega (arith, l, e)) at
