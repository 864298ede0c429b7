use Rattle.rdl_settle.proofs.Assigning.{AssignedTo}
use Rattle.rdl_settle.proofs.above.assign_all.Given as goal

abbrev pub invariant-loop-at : goal.invariant-loop-at
invariant-loop-at l = AssignedTo l.rows l.tree l.layers l.fn.failures l.at l.entries.items l.failures
