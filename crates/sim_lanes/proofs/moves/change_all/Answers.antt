use Rattle.std.proofs.Common.{◌+◌, get_or, ap, sym, subst, ◌∙◌, arith}
use Rattle.std.proofs.Math.ListN.{set}
use Rattle.sim_lanes.specs.Due.{IsCalm}
use Rattle.sim_lanes.proofs.Moving.{calm_before}
use Rattle.sim_lanes.proofs.Places.{put_more}
use Rattle.sim_lanes.proofs.moves.change_all.Goals as goal

pub loop-index-preserved : goal.loop-index-preserved
loop-index-preserved c =
    let place = c.args.at + c.loop-index.index in
    let x = get_or c.args.numbers.now c.loop-index.index 0 in
    record {
      values = c.change.ensures.values ∙ (ap (λ vs. set vs place x) c.loop-index.invariant.values ∙ put_more c.args.values.now c.args.numbers.now c.args.at c.loop-index.index c.loop-index-test.true c.requires);
      calm = λ first os front fed calm. subst (IsCalm c.change.new.due first os) (sym c.change.ensures.values)
          (calm_before c.args.fan.now os first c.loop-index.due c.change.new.due c.loop-index.values place x fed c.change.ensures.due (omega (arith, c.requires, c.loop-index-test.true, c.loop-index.auto.values))
          (omega (arith, front, c.loop-index-test.true)) c.change.auto.due (c.loop-index.invariant.calm first os front fed calm));
    }
