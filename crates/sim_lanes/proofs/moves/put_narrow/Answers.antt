use Rattle.std.proofs.Common.{◌+◌, ap, ◌∙◌, get_or}
use Rattle.std.proofs.Math.ListN.{set}
use Rattle.sim_lanes.proofs.Places.{put_more}
use Rattle.sim_lanes.proofs.moves.put_narrow.Goals as goal

pub loop-index-preserved : goal.loop-index-preserved
loop-index-preserved c =
    ap (λ vs. set vs (c.args.at + c.loop-index.index) (get_or c.args.numbers.now c.loop-index.index 0)) c.loop-index.invariant ∙ put_more c.args.values.now c.args.numbers.now c.args.at c.loop-index.index c.loop-index-test.true c.requires
