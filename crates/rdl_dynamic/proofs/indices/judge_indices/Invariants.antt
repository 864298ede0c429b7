use Rattle.std.proofs.Common.{flat_map, take}
use Rattle.rdl_values.specs.Values.{Around}
use Rattle.rdl_failures.specs.Noted.{IsNoted}
use Rattle.rdl_failures.specs.Shown.{IsShown}
use Rattle.rdl_dynamic.specs.Indices.{bad_numbers}
use Rattle.rdl_dynamic.proofs.indices.judge_indices.Given as goal

abbrev pub invariant-loop-step : goal.invariant-loop-step
invariant-loop-step l = (env : Around) → IsShown l.visible env → IsNoted (flat_map (λ t. bad_numbers env t.index.now) (take l.step-index l.step-items)) l.clean l.initial.failures l.failures
