use Rattle.std.proofs.Common.{◌≡◌, ◌++◌, take}
use Rattle.rdl_node_lists.specs.Keys.{numbers}
use Rattle.rdl_targets.proofs.matching.add_all.Given as goal

abbrev pub invariant-loop-one : goal.invariant-loop-one
invariant-loop-one l = l.list.items ≡ l.initial.list.items ++ numbers (take l.one-index l.nodes)
