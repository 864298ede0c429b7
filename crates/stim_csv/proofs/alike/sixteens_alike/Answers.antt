use Rattle.std.proofs.Common.{arith}
use Rattle.stim_csv.proofs.Beginnings.{both_alike}
use Rattle.stim_csv.proofs.alike.sixteens_alike.Goals as goal

pub loop-at-preserved : goal.loop-at-preserved
loop-at-preserved c = record {
  within = omega (arith, c.loop-at-test.true);
  alike = both_alike c.loop-at.at 16 c.args.one.now c.args.other.now c.loop-at.invariant.alike (c.are_alike_at.ensures c.if-are_alike_at.true);
}
