use Rattle.rdl_facts.proofs.Greater.{greatest_more}
use Rattle.rdl_facts.proofs.greatest.greatest_of.Goals as goal

pub loop-entry-preserved : goal.loop-entry-preserved
loop-entry-preserved c = greatest_more c.args.entries.now c.loop-entry.entry-index _ c.loop-entry.greatest c.greater.result c.loop-entry-test.true c.greater.ensures c.loop-entry.invariant
