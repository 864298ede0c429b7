use Rattle.rdl_facts.proofs.Greater.{each_more}
use Rattle.rdl_facts.proofs.greatest.Greatest.of.Goals as goal

pub loop-of-preserved : goal.loop-of-preserved
loop-of-preserved c = each_more c.loop-of.numbers.items c.push.new.self.items c.args.enums.now c.loop-of.of-index _ c.greatest_of.result c.loop-of-test.true c.loop-of.invariant c.greatest_of.ensures c.in_ok-push.ensures.items
