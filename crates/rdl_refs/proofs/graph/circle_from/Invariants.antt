use Rattle.std.proofs.Common.{◌-◌, length}
use Rattle.rdl_refs.specs.Walk.{IsWalk}
use Rattle.rdl_refs.proofs.graph.circle_from.Given as goal

abbrev pub invariant-loop-path : goal.invariant-loop-path
invariant-loop-path l = IsWalk l.edges l.levels.ranks.items l.marks.items l.path.items l.thing

abbrev pub decreases-loop-path : goal.decreases-loop-path
decreases-loop-path l = length l.edges - length l.path.items
