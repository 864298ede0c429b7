use Rattle.std.proofs.Common.{◌≡◌, ℕ, ◌<◌, None, Some, slice_get}
use Rattle.topological_order.specs.Levels.{rank_at}
use Rattle.rdl_refs.proofs.graph.unranked_need.Given as goal

abbrev pub invariant-loop-need : goal.invariant-loop-need
invariant-loop-need l = (k j : ℕ) → k < l.need-index → slice_get l.needs k ≡ Some j → rank_at l.ranks j ≡ None → ⊥
