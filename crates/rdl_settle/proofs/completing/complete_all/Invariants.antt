use Rattle.rdl_settle.proofs.Finishing.{CompletedTo}
use Rattle.rdl_settle.proofs.completing.complete_all.Given as goal

abbrev pub invariant-loop-at : goal.invariant-loop-at
invariant-loop-at l = CompletedTo l.rows l.tree l.layers l.count l.fn.entries.items l.fn.failures l.at l.entries.items l.failures
