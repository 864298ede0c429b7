use Rattle.rdl_assignments.proofs.SteadyEntries.{IsAlikeEntry, all_more, all_taken, entries_alike}
use Rattle.rdl_assignments.proofs.varying.some_vary.Goals as goal

pub loop-entry-preserved : goal.loop-entry-preserved
loop-entry-preserved c = λ v shown. all_more (IsAlikeEntry v) c.args.entries.now c.loop-entry.entry-index _ c.loop-entry-test.true (c.loop-entry.invariant v shown) (c.entry_varies.ensures c.if-entry_varies.false v shown)

pub returns : goal.returns
returns c = λ q v shown. entries_alike v c.args.entries.now (all_taken (IsAlikeEntry v) c.args.entries.now c.loop-entry.entry-index c.loop-entry-test.false (c.loop-entry.invariant v shown))
