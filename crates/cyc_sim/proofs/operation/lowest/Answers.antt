use Rattle.std.proofs.Common.{sym}
use Rattle.std.proofs.Math.Nat.{mod-eq_of_lt}
use Rattle.cyc_sim.proofs.Numbers.{below_wide}
use Rattle.cyc_sim.proofs.operation.lowest.Goals as goal

pub returns-then-width-ge128 : goal.returns-then-width-ge128
returns-then-width-ge128 c = sym (mod-eq_of_lt (below_wide 128 c.args.number c.args.width c.ranges.number.fits c.if-width-ge128.true))
