use Rattle.rdl_field_rules.specs.Judged as judged
use Rattle.rdl_field_rules.proofs.Turns.{ended, read-view, turn}
use Rattle.rdl_field_rules.proofs.likes.judge_resets.Goals as goal

pub judge_reset-requires-clause-view : goal.judge_reset-requires-clause-view
judge_reset-requires-clause-view c = read-view c.view-item.result c.args.props.now c.args.views.now c.requires.views.0 c.requires.views.1 c.loop-view.view-index c.loop-view-test.true c.view-item.is

pub loop-view-preserved : goal.loop-view-preserved
loop-view-preserved c = λ bs cs h g. turn c.view-item.result c.args.props.now c.args.views.now bs h (judged.resets cs) c.loop-view.view-index c.loop-view-test.true c.view-item.is c.args.failures.now c.loop-view.failures c.judge_reset.new.failures (c.loop-view.invariant bs cs h g) (λ b i. c.in_ok-judge_reset.ensures b cs i g)

pub returns : goal.returns
returns c = λ bs cs h g. ended c.args.props.now c.args.views.now bs h (judged.resets cs) c.loop-view.view-index c.loop-view-test.false c.args.failures.now c.loop-view.failures (c.loop-view.invariant bs cs h g)
