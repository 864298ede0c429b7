use Rattle.std.proofs.Common.{◌≡◌, ◌+◌, Some, None, length}
use Rattle.topological_order.specs.Levels.{rank_at}
use Rattle.topological_order.specs.Ranking.{IsSound}
use Rattle.topological_order.specs.Waiting.{count_of}
use Rattle.topological_order.proofs.ranking.Ranking.release.Given as goal

abbrev pub invariant-loop : goal.invariant-loop
invariant-loop l = record {
  sound : IsSound l.needs (length l.needs) l.done None l.self;
  rank : rank_at l.self.ranks.items l.thing ≡ Some l.done;
  left : count_of l.self.waiting l.thing + l.counter ≡ l.count;
}
