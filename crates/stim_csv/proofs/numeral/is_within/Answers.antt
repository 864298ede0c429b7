use Rattle.std.proofs.Common.{rules}
use Rattle.stim_csv.proofs.Widths.{wide_fits, narrow_fits}
use Rattle.stim_csv.proofs.numeral.is_within.Goals as goal

pub returns-then-width-ge128 : goal.returns-then-width-ge128
returns-then-width-ge128 c = let e = wide_fits c.args.number c.args.width c.ranges.number.fits c.if-width-ge128.true in search (rules, e)

pub returns-else-width-ge128 : goal.returns-else-width-ge128
returns-else-width-ge128 c = narrow_fits c.args.number c.args.width c.ranges.number.fits
