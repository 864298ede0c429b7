use Rattle.rdl_resolve.specs.Named.{AreNamedTo}
use Rattle.rdl_resolve.proofs.tree.named_items.Given as goal

abbrev pub invariant-loop-node : goal.invariant-loop-node
invariant-loop-node l = AreNamedTo l.props l.node l.items.items l.faults.items
