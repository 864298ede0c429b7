use Rattle.std.proofs.Common.{ℕ, List, Option, None, Some, get_or, refl, sym, subst}
use Rattle.std.specs.Option.{IsSome, IfNone}
use Rattle.rdl_refs.specs.Walk.{IsUnrankedNeed}
use Rattle.rdl_refs.proofs.Ending.{needs-unranked}
use Rattle.rdl_refs.proofs.graph.next.Goals as goal

-- what is not none
some-if : (o : Option ℕ) (ranks : List (Option ℕ)) (needs : List ℕ) → IfNone o ((j : ℕ) → IsUnrankedNeed ranks needs j → ⊥) → (j : ℕ) × IsUnrankedNeed ranks needs j → IsSome o
some-if None ranks needs h (j, n) = absurd (h j n)
some-if (Some x) ranks needs h n = refl

pub unwrap-requires : goal.unwrap-requires
unwrap-requires c =
    let ranks = c.args.levels.now.ranks.items in
    let needs = needs-unranked c.args.edges.now ranks c.args.levels.now.order.items c.requires.levels c.requires.within c.args.thing c.requires.unranked in
    some-if c.unranked_need.result c.deref.result.now c.get.result.now c.unranked_need.ensures.none
    (needs.0, subst (λ n. IsUnrankedNeed c.deref.result.now n needs.0) (sym c.get.ensures.list) (subst (λ r. IsUnrankedNeed r (get_or c.args.edges.now c.args.thing _) needs.0) (sym c.deref.ensures.value) needs.1))
