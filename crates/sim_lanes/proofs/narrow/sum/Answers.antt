use Rattle.std.proofs.Common.{◌+◌, ◌∙◌}
use Rattle.sim_lanes.proofs.Numbers.{narrow_bits}
use Rattle.sim_lanes.proofs.narrow.sum.Goals as goal

pub returns : goal.returns
returns c = c.lowest.ensures ∙ narrow_bits (c.args.left + c.args.right) c.args.width.bits c.args.width.most
