use Rattle.std.proofs.Common.{◌≡◌, ℕ, ◌<◌, None}
use Rattle.topological_order.specs.Levels.{rank_at}
use Rattle.rdl_refs.proofs.graph.unranked.Given as goal

abbrev pub invariant-loop-thing : goal.invariant-loop-thing
invariant-loop-thing l = (i : ℕ) → i < l.thing → rank_at l.ranks i ≡ None → ⊥
