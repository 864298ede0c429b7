use Rattle.rdl_meaning_rules.proofs.Walk.{put-more}
use Rattle.rdl_meaning_rules.proofs.circles.judge_circles.Goals as goal

pub loop-fault-preserved : goal.loop-fault-preserved
loop-fault-preserved c = put-more c.args.faults.now c.loop-fault.fault-index _ c.args.failures.now c.loop-fault.failures c.add.new.self c.loop-fault-test.true c.loop-fault.invariant c.in_ok-add.ensures.added
