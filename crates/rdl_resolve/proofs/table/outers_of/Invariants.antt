use Rattle.rdl_resolve.specs.Outers.{AreOutersTo}
use Rattle.rdl_resolve.proofs.table.outers_of.Given as goal

abbrev pub invariant-loop-at : goal.invariant-loop-at
invariant-loop-at l = AreOutersTo l.elab l.at l.outers.items
