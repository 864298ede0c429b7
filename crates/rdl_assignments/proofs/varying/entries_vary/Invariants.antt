use Rattle.std.proofs.Common.{take}
use Rattle.std.specs.List.{AllByRecursion}
use Rattle.rdl_failures.specs.Shown.{IsShown}
use Rattle.rdl_values.specs.Values.{Around}
use Rattle.rdl_assignments.proofs.SteadyEntries.{IsAlikeItem}
use Rattle.rdl_assignments.proofs.varying.entries_vary.Given as goal

abbrev pub invariant-loop-item : goal.invariant-loop-item
invariant-loop-item l = (v : Around) → IsShown l.text.visible.now v → AllByRecursion (IsAlikeItem v) (take l.item-index l.items)
