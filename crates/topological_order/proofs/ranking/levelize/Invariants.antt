use Rattle.std.proofs.Common.{None, length}
use Rattle.topological_order.specs.Ranking.{IsSound}
use Rattle.topological_order.proofs.ranking.levelize.Given as goal

abbrev pub invariant-loop-thing : goal.invariant-loop-thing
invariant-loop-thing l = IsSound l.needs l.thing 0 None l.ranking

abbrev pub invariant-loop-done : goal.invariant-loop-done
invariant-loop-done l = IsSound l.needs (length l.needs) l.done None l.ranking
