use Rattle.std.proofs.Common.{◌+◌, take, ap, sym, subst, ◌∙◌, arith}
use Rattle.std.proofs.lemmas.List.{get_or_default}
use Rattle.sim_lanes.specs.Due.{IsCalm}
use Rattle.sim_lanes.specs.Narrow.{value_at}
use Rattle.sim_lanes.proofs.Moving.{calm_settled}
use Rattle.sim_lanes.proofs.moves.settle_bit.Goals as goal

pub returns-then-index-operations-clause-calm : goal.returns-then-index-operations-clause-calm
returns-then-index-operations-clause-calm c = λ fed calm.
    let os = c.args.operations.now in
    let index = c.saturating_add-index.result in
    let o = c.index-operations-index.result in
    let vs = take (c.args.first + index) c.args.values.now in
    subst (IsCalm c.change.new.due c.args.first os) (sym c.change.ensures.values)
    (calm_settled c.args.fan.now os c.args.first c.args.due.now c.unmark.new.due c.change.new.due c.args.values.now index c.value-value.result fed c.requires.below c.if-index-operations.true
    (omega (arith, c.requires.sized, c.if-index-operations.true))
    (λ k apart. c.unmark.ensures k (λ e. apart (omega (arith, e, c.saturating_mul.ensures, c.saturating_add-index.ensures, c.if-index-operations.true))))
    c.unmark.auto.due c.change.ensures.due c.change.auto.due
    (λ d. c.value-value.ensures ∙ ap (value_at vs) (c.index-operations-index.is ∙ get_or_default os index o d c.if-index-operations.true)) calm)
