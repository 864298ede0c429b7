use Rattle.std.proofs.Common.{take}
use Rattle.rdl_scopes.proofs.Closing.{ClosedTo}
use Rattle.rdl_scopes.proofs.closed.ClosedEnums.of.Given as goal

abbrev pub invariant-loop-at : goal.invariant-loop-at
invariant-loop-at l = ClosedTo l.closed l.items (take l.at l.items) l.initial.failures l.failures
