use Rattle.std.proofs.Common.{◌≡◌, ℕ, ◌+◌, ◌-◌, ◌<◌, ◌%◌, ◌^◌, ap, ◌∙◌, arith}
use Rattle.sim_lanes.proofs.Numbers.{narrow_difference}
use Rattle.sim_lanes.proofs.narrow.difference.Goals as goal

regroup : (a b : ℕ) → b < 2 ^ 64 → a + (2 ^ 64 - b) ≡ a + 2 ^ 64 - b
regroup a b low = omega (arith, low)

pub returns : goal.returns
returns c =
    c.lowest.ensures
    ∙ (ap (λ n. n % 2 ^ 64 % 2 ^ c.args.width.bits) (regroup c.args.left c.args.right c.ranges.right.fits)
    ∙ narrow_difference c.args.left c.args.right c.args.width.bits c.args.width.most c.ranges.right.fits)
