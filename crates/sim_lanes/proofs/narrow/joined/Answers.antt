use Rattle.std.proofs.Common.{◌+◌, ◌*◌, ◌%◌, ◌^◌, ap, ◌∙◌}
use Rattle.sim_lanes.proofs.Numbers.{narrow_bits}
use Rattle.sim_lanes.proofs.narrow.joined.Goals as goal

pub returns : goal.returns
returns c = c.lowest.ensures ∙ (ap (λ n. n % 2 ^ c.args.total.bits) c.stacked.ensures ∙ narrow_bits (c.args.high * 2 ^ c.args.bits.bits + c.args.low) c.args.total.bits c.args.total.most)
