use Rattle.std.proofs.Common.{below_more, subst, ◌∙◌}
use Rattle.std.proofs.lemmas.List.{get_or_default}
use Rattle.sim_lanes.specs.Due.{Feeds}
use Rattle.sim_lanes.proofs.fan.Fan.feeds_all.Goals as goal

pub loop-index-preserved : goal.loop-index-preserved
loop-index-preserved c =
    below_more _ _ c.loop-index.invariant
    (λ d. let o = c.index-operations-index.result in
    subst (Feeds c.args.self.now c.loop-index.index) (c.index-operations-index.is ∙ get_or_default c.args.operations.now c.loop-index.index o d c.loop-index-test.true) c.if-not-feeds.ensures)
