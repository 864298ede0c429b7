use Rattle.std.proofs.Common.{ap, ◌∙◌, arith}
use Rattle.std.proofs.lemmas.Bool.{OnTrue_at, OnTrue_from}
use Rattle.sim_lanes.specs.Narrow.{narrow_after}
use Rattle.sim_lanes.proofs.Moving.{calm_clear}
use Rattle.sim_lanes.proofs.moves.settle_due.Goals as goal

pub returns-clause-settled : goal.returns-clause-settled
returns-clause-settled c = λ fed calm.
    let os = c.args.operations.now in
    OnTrue_from c.are_clear.result _
    (λ yes. calm_clear os c.loop-word.due c.loop-word.values c.args.first (omega (arith, c.requires.sized, c.loop-word.auto.values)) c.requires.below (c.loop-word.invariant.calm fed calm) (OnTrue_at yes c.are_clear.ensures)
    ∙ ap (narrow_after os) c.loop-word.invariant.front)
