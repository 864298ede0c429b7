use Rattle.std.proofs.Common.{◌≡◌, ◌++◌, List, None, take}
use Rattle.rdl_nodes.specs.declared.table.Row.{Row}
use Rattle.rdl_nodes.specs.Below.{AreBelow}
use Rattle.rdl_nodes.proofs.table.add_roots.Given as goal

abbrev pub invariant-loop-node : goal.invariant-loop-node
invariant-loop-node l = (added : List Row) × AreBelow None (take l.node-index l.nodes) added × (l.rows.items ≡ l.initial.rows.items ++ added)
