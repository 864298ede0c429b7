use Rattle.rdl_layers.specs.Phase4.{of_entry}
use Rattle.rdl_assignments.proofs.Turns.{entries-step}
use Rattle.rdl_assignments.proofs.enums.judge_all.Goals as goal

pub loop-entry-preserved : goal.loop-entry-preserved
loop-entry-preserved c = λ scope shown. entries-step (of_entry scope) c.args.entries.now c.loop-entry.entry-index _ c.args.failures.now c.loop-entry.failures c.judge_one.new.failures c.loop-entry-test.true (c.loop-entry.invariant scope shown) (c.in_ok-judge_one.ensures scope shown)
