use Rattle.std.proofs.Common.{◌≡◌, flat_map, take}
use Rattle.rdl_values.specs.Bodies.{Scope, around}
use Rattle.rdl_failures.specs.Noted.{with_all}
use Rattle.rdl_failures.specs.Shown.{IsShown}
use Rattle.rdl_layers.specs.Phase4.{of_entry}
use Rattle.rdl_assignments.proofs.enums.judge_all.Given as goal

abbrev pub invariant-loop-entry : goal.invariant-loop-entry
invariant-loop-entry l = (scope : Scope) → IsShown l.visible (around scope) → l.failures ≡ with_all (flat_map (of_entry scope) (take l.entry-index l.entries)) l.initial.failures
