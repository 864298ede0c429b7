use Rattle.std.proofs.Common.{take}
use Rattle.std.specs.List.{AllByRecursion}
use Rattle.rdl_failures.specs.Shown.{IsShown}
use Rattle.rdl_values.specs.Values.{Around}
use Rattle.rdl_assignments.proofs.SteadyEntries.{IsAlikeEntry}
use Rattle.rdl_assignments.proofs.varying.some_vary.Given as goal

abbrev pub invariant-loop-entry : goal.invariant-loop-entry
invariant-loop-entry l = (v : Around) → IsShown l.text.visible.now v → AllByRecursion (IsAlikeEntry v) (take l.entry-index l.entries)
