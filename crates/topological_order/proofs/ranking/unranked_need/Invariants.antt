use Rattle.std.proofs.Common.{◌≡◌, ℕ, ◌<◌, ◌≤◌, slice_get, Some}
use Rattle.topological_order.specs.Ranking.{IsRanked}
use Rattle.topological_order.proofs.ranking.unranked_need.Given as goal

abbrev pub invariant-loop-place : goal.invariant-loop-place
invariant-loop-place l = (i j : ℕ) → l.from ≤ i → i < l.place → slice_get l.needs i ≡ Some j → IsRanked l.ranks j
