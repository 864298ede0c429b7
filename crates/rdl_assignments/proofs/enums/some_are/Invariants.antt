use Rattle.std.proofs.Common.{◌≡◌, [], flat_map, take}
use Rattle.rdl_values.specs.Bodies.{Scope}
use Rattle.rdl_layers.specs.Phase4.{of_entry}
use Rattle.rdl_assignments.proofs.enums.some_are.Given as goal

abbrev pub invariant-loop-entry : goal.invariant-loop-entry
invariant-loop-entry l = (scope : Scope) → flat_map (of_entry scope) (take l.entry-index l.entries) ≡ []
