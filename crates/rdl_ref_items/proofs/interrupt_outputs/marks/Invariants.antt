use Rattle.rdl_ref_items.specs.InterruptOutputs.{AreMarksTo}
use Rattle.rdl_ref_items.proofs.interrupt_outputs.marks.Given as goal

abbrev pub invariant-loop-at : goal.invariant-loop-at
invariant-loop-at l = AreMarksTo l.props l.marks.items l.at
