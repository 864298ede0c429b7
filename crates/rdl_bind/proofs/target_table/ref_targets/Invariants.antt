use Rattle.rdl_bind.specs.Targeted.{AreTargetsTo}
use Rattle.rdl_bind.proofs.target_table.ref_targets.Given as goal

abbrev pub invariant-loop-node : goal.invariant-loop-node
invariant-loop-node l = AreTargetsTo l.elab l.node l.targets.items
