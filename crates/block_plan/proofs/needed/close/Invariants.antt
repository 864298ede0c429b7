use Rattle.block_plan.proofs.Needing.{ClosedFrom}
use Rattle.block_plan.proofs.needed.close.Given as goal

abbrev pub invariant-loop-at : goal.invariant-loop-at
invariant-loop-at l = ClosedFrom l.block l.fn.wanted l.wanted l.at
