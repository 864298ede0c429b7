use Rattle.std.proofs.Common.{ℕ, subst}
use Rattle.rdl_refs.specs.Graph.{IsOrder}
use Rattle.rdl_refs.specs.Walk.{IsUnranked}
use Rattle.rdl_refs.proofs.Ordered.{order-found}
use Rattle.rdl_refs.proofs.ordering.order.Goals as goal

pub returns-in-None : goal.returns-in-None
returns-in-None c =
    let none : (i : ℕ) → IsUnranked c.in_ok-levels.levels.ranks.items i → ⊥ = subst (λ r. (i : ℕ) → IsUnranked r i → ⊥) c.deref.ensures.value c.in-None.ensures.none in
    let found = order-found c.edges.result.now c.in_ok-levels.levels.ranks.items c.in_ok-levels.levels.order.items c.in_ok-levels.ensures none in
    subst (λ e. IsOrder e c.in_ok-levels.levels.order.items) c.edges.ensures.edges found
