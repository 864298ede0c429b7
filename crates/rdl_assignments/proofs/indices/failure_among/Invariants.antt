use Rattle.std.proofs.Common.{◌≡◌, None, take}
use Rattle.std.specs.Result.{result_err}
use Rattle.rdl_values.specs.Uses.{values}
use Rattle.rdl_values.specs.Values.{Around}
use Rattle.rdl_failures.specs.Shown.{IsShown}
use Rattle.rdl_assignments.proofs.indices.failure_among.Given as goal

abbrev pub invariant-loop-expr : goal.invariant-loop-expr
invariant-loop-expr l = (around : Around) → IsShown l.visible around → result_err (values around (take l.expr-index l.list)) ≡ None
