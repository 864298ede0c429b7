use Rattle.rdl_closed.proofs.Same.{all_closed, closed_more}
use Rattle.rdl_closed.proofs.closed.are_closed.Goals as goal

pub loop-entry-preserved : goal.loop-entry-preserved
loop-entry-preserved c = closed_more c.args.entries.now c.loop-entry.entry-index _ c.loop-entry-test.true c.loop-entry.invariant (c.is_closed_entry.ensures c.if-not-is_closed_entry.false)

pub returns : goal.returns
returns c = λ q. all_closed c.args.entries.now c.loop-entry.entry-index c.loop-entry-test.false c.loop-entry.invariant
