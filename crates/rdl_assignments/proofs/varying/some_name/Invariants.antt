use Rattle.std.proofs.Common.{take}
use Rattle.std.specs.List.{AllByRecursion}
use Rattle.rdl_failures.specs.Shown.{IsShown}
use Rattle.rdl_values.specs.Values.{Around}
use Rattle.rdl_assignments.specs.Steady.{IsSteadyNamed}
use Rattle.rdl_assignments.proofs.varying.some_name.Given as goal

abbrev pub invariant-loop-set : goal.invariant-loop-set
invariant-loop-set l = (v : Around) → IsShown l.text.visible.now v → AllByRecursion (IsSteadyNamed l.text.same_enums v) (take l.set-index l.sets)
