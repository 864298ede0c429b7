use Rattle.rdl_field_rules.specs.Judged as judged
use Rattle.rdl_field_rules.proofs.Turns.{ended, turn}
use Rattle.rdl_field_rules.proofs.likes.judge_likes.Goals as goal

pub loop-view-preserved : goal.loop-view-preserved
loop-view-preserved c = λ e bs cs h g. turn c.view-item.result e c.args.views.now bs h (judged.unlike cs) c.loop-view.view-index c.loop-view-test.true c.view-item.is c.args.failures.now c.loop-view.failures c.judge_one.new.failures (c.loop-view.invariant e bs cs h g) (λ b i. c.in_ok-judge_one.ensures e b cs i g)

pub returns : goal.returns
returns c = λ e bs cs h g. ended e c.args.views.now bs h (judged.unlike cs) c.loop-view.view-index c.loop-view-test.false c.args.failures.now c.loop-view.failures (c.loop-view.invariant e bs cs h g)
