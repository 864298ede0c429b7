use Rattle.std.proofs.Common.{◌≡◌, None, take, flat_map}
use Rattle.std.specs.Result.{result_err}
use Rattle.rdl_values.specs.Uses.{values}
use Rattle.rdl_values.specs.Values.{Around}
use Rattle.rdl_failures.specs.Shown.{IsShown}
use Rattle.rdl_assignments.proofs.indices.first_failure.Given as goal

abbrev pub invariant-loop-step : goal.invariant-loop-step
invariant-loop-step l = (around : Around) → IsShown l.visible around → result_err (values around (flat_map (λ t. t.index.now) (take l.step-index l.step-items))) ≡ None
