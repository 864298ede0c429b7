use Rattle.std.proofs.Common.{take}
use Rattle.rdl_values.specs.Values.{Around}
use Rattle.rdl_failures.specs.Noted.{IsNoted}
use Rattle.rdl_failures.specs.Shown.{IsShown}
use Rattle.rdl_dynamic.specs.Indices.{bad_numbers}
use Rattle.rdl_dynamic.proofs.indices.note_numbers.Given as goal

abbrev pub invariant-loop-expr : goal.invariant-loop-expr
invariant-loop-expr l = (env : Around) → IsShown l.visible env → IsNoted (bad_numbers env (take l.expr-index l.list)) l.clean l.initial.failures l.failures
