use Rattle.rdl_field_rules.specs.Judged as judged
use Rattle.rdl_field_rules.proofs.Turns.{ended, read-view, turn}
use Rattle.rdl_field_rules.proofs.likes.judge_reset.Goals as goal

pub judge_named-requires-clause-other : goal.judge_named-requires-clause-other
judge_named-requires-clause-other c = read-view c.other-item.result c.args.props.now c.args.others.now c.requires.others.0 c.requires.others.1 c.loop-other.other-index c.loop-other-test.true c.other-item.is

pub loop-other-preserved : goal.loop-other-preserved
loop-other-preserved c = λ b cs i h. turn c.other-item.result c.args.props.now c.args.others.now cs h (judged.named_reset b) c.loop-other.other-index c.loop-other-test.true c.other-item.is c.args.failures.now c.loop-other.failures c.judge_named.new.failures (c.loop-other.invariant b cs i h) (λ d j. c.in_ok-judge_named.ensures b d i j)

pub returns : goal.returns
returns c = λ b cs i h. ended c.args.props.now c.args.others.now cs h (judged.named_reset b) c.loop-other.other-index c.loop-other-test.false c.args.failures.now c.loop-other.failures (c.loop-other.invariant b cs i h)
