use Rattle.cyc_sim.proofs.Numbers.{joined_wide}
use Rattle.cyc_sim.proofs.operation.joined.Goals as goal

pub returns-then-width-ge128 : goal.returns-then-width-ge128
returns-then-width-ge128 c = joined_wide 128 c.args.high c.args.low c.args.width c.ranges.low.fits c.if-width-ge128.true
