use Rattle.std.proofs.Common.{take}
use Rattle.std.specs.List.{AllByRecursion}
use Rattle.rdl_failures.specs.Shown.{IsShown}
use Rattle.rdl_values.specs.Values.{Around}
use Rattle.rdl_assignments.specs.Steady.{IsSteady}
use Rattle.rdl_assignments.proofs.steady.are_steady.Given as goal

abbrev pub invariant-loop-expr : goal.invariant-loop-expr
invariant-loop-expr l = (v : Around) → IsShown l.text.visible.now v → AllByRecursion (IsSteady l.text.same_enums v) (take l.expr-index l.list)
