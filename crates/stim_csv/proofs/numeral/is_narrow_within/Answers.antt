use Rattle.std.proofs.Common.{rules, arith}
use Rattle.stim_csv.proofs.Widths.{word_fits, narrow_fits}
use Rattle.stim_csv.proofs.numeral.is_narrow_within.Goals as goal

pub returns-then-width-ge64 : goal.returns-then-width-ge64
returns-then-width-ge64 c = let e = word_fits c.args.number c.args.width c.ranges.number.fits c.if-width-ge64.true in search (rules, e)

pub returns-else-width-ge64 : goal.returns-else-width-ge64
returns-else-width-ge64 c = narrow_fits c.args.number c.args.width (omega (arith, c.ranges.number.fits))
