use Rattle.rdl_field_rules.specs.Judged.{of_field}
use Rattle.rdl_field_rules.proofs.Turns.{ended, read-view, turn}
use Rattle.rdl_field_rules.proofs.fields.judge_fields.Goals as goal

pub judge_one_field-requires-clause-view : goal.judge_one_field-requires-clause-view
judge_one_field-requires-clause-view c = read-view c.view-item.result c.args.props.now c.args.views.now c.requires.views.0 c.requires.views.1 c.loop-view.view-index c.loop-view-test.true c.view-item.is

pub loop-view-preserved : goal.loop-view-preserved
loop-view-preserved c = λ bs h. turn c.view-item.result c.args.props.now c.args.views.now bs h of_field c.loop-view.view-index c.loop-view-test.true c.view-item.is c.args.failures.now c.loop-view.failures c.judge_one_field.new.failures (c.loop-view.invariant bs h) (λ b g. c.in_ok-judge_one_field.ensures b g)

pub returns : goal.returns
returns c = λ bs h. ended c.args.props.now c.args.views.now bs h of_field c.loop-view.view-index c.loop-view-test.false c.args.failures.now c.loop-view.failures (c.loop-view.invariant bs h)
