use Rattle.std.proofs.Common.{take}
use Rattle.std.specs.List.{AllByRecursion}
use Rattle.rdl_failures.specs.Shown.{IsShown}
use Rattle.rdl_values.specs.Values.{Around}
use Rattle.rdl_assignments.proofs.SteadySets.{IsSteadyStep}
use Rattle.rdl_assignments.proofs.steady.has_steady_indices.Given as goal

abbrev pub invariant-loop-step : goal.invariant-loop-step
invariant-loop-step l = (v : Around) → IsShown l.text.visible.now v → AllByRecursion (IsSteadyStep l.text.same_enums v) (take l.step-index l.step-items)
