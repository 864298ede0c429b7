use Rattle.std.proofs.Common.{◌*◌, ◌+◌}
use Rattle.rdl_elab.specs.Nodes.{AreSiblings}
use Rattle.rdl_elab.proofs.Childwise.{GrownChildren}
use Rattle.rdl_elab.proofs.Elementwise.{GrownElements}
use Rattle.rdl_elab.proofs.growing.Growing.+grow.Given as goal

abbrev pub decreases-grow : goal.decreases-grow
decreases-grow l = l.levels * 5 + 1

abbrev pub decreases-grow_all : goal.decreases-grow_all
decreases-grow_all l = l.levels * 5 + 4

abbrev pub decreases-grow_below : goal.decreases-grow_below
decreases-grow_below l = l.levels * 5

abbrev pub decreases-grow_child : goal.decreases-grow_child
decreases-grow_child l = l.levels * 5 + 3

abbrev pub decreases-grow_element : goal.decreases-grow_element
decreases-grow_element l = l.levels * 5 + 2

abbrev pub invariant-grow_all-loop-child : goal.invariant-grow_all-loop-child
invariant-grow_all-loop-child l = GrownChildren l.initial.self l.self l.standing l.levels l.children l.child-index l.beside.nodes.items × AreSiblings l.beside

abbrev pub invariant-grow_child-loop-number : goal.invariant-grow_child-loop-number
invariant-grow_child-loop-number l = GrownElements l.initial.self l.self l.initial.beside.nodes.items l.beside.nodes.items l.standing l.levels l.child l.number × AreSiblings l.beside
