use Rattle.rdl_rules.specs.FieldRules.{of_view}
use Rattle.rdl_field_rules.proofs.Turns.{ended, read-view, turn}
use Rattle.rdl_field_rules.proofs.fields.judge_views.Goals as goal

pub judge_one_view-requires-clause-view : goal.judge_one_view-requires-clause-view
judge_one_view-requires-clause-view c = read-view c.view-item.result c.args.props.now c.args.views.now c.requires.views.0 c.requires.views.1 c.loop-view.view-index c.loop-view-test.true c.view-item.is

pub loop-view-preserved : goal.loop-view-preserved
loop-view-preserved c = λ r bs a h.
    turn c.view-item.result c.args.props.now c.args.views.now bs h (of_view r) c.loop-view.view-index c.loop-view-test.true c.view-item.is c.args.failures.now c.loop-view.failures c.judge_one_view.new.failures (c.loop-view.invariant r bs a h) (λ b g. c.in_ok-judge_one_view.ensures r b a g)

pub returns : goal.returns
returns c = λ r bs a h. ended c.args.props.now c.args.views.now bs h (of_view r) c.loop-view.view-index c.loop-view-test.false c.args.failures.now c.loop-view.failures (c.loop-view.invariant r bs a h)
