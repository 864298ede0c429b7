use Rattle.std.proofs.Common.{◌≡◌, ◌++◌, List, Some, take}
use Rattle.rdl_tree.specs.declared.node.Node.{out-Node}
use Rattle.rdl_nodes.specs.declared.table.Row.{Row}
use Rattle.rdl_nodes.specs.Below.{AreBelow}
use Rattle.rdl_nodes.proofs.table.+add_node.Given as goal

abbrev pub invariant-loop-child : goal.invariant-loop-child
invariant-loop-child l = (added : List Row) × AreBelow (Some (out-Node l.node).id) (take l.child-index (out-Node l.node).children.now) added × (l.rows.items ≡ l.initial.rows.items ++ added)
