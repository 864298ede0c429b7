use Rattle.std.proofs.Common.{arith}
use Rattle.sim_lanes.proofs.Marking.{none_due}
use Rattle.sim_lanes.proofs.marks.are_clear.Goals as goal

pub returns : goal.returns
returns c = none_due c.args.due.now (λ w low. c.loop-word.invariant w (omega (arith, low)))
