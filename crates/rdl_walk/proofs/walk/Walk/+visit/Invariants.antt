use Rattle.std.proofs.Common.{◌*◌, ◌+◌}
use Rattle.rdl_walk.proofs.Loops.{DoneChildren, DoneElements}
use Rattle.rdl_walk.proofs.walk.Walk.+visit.Given as goal

abbrev pub decreases-visit : goal.decreases-visit
decreases-visit l = l.levels * 4

abbrev pub decreases-visit_all : goal.decreases-visit_all
decreases-visit_all l = l.levels * 4 + 3

abbrev pub decreases-visit_child : goal.decreases-visit_child
decreases-visit_child l = l.levels * 4 + 2

abbrev pub decreases-visit_element : goal.decreases-visit_element
decreases-visit_element l = l.levels * 4 + 1

abbrev pub invariant-visit_all-loop-child : goal.invariant-visit_all-loop-child
invariant-visit_all-loop-child l = DoneChildren l.initial.self l.self l.standing l.levels l.children l.child-index

abbrev pub invariant-visit_child-loop-number : goal.invariant-visit_child-loop-number
invariant-visit_child-loop-number l = DoneElements l.initial.self l.self l.standing l.levels l.child l.number
