use Rattle.std.proofs.Common.{◌≡◌, Ok, take}
use Rattle.rdl_values.specs.Uses.{values}
use Rattle.rdl_values.specs.Values.{Around}
use Rattle.rdl_failures.specs.Shown.{IsShown}
use Rattle.rdl_resolve.proofs.indices.numbers_of.Given as goal

abbrev pub invariant-loop-expr : goal.invariant-loop-expr
invariant-loop-expr l = (around : Around) → IsShown l.visible around → values around (take l.expr-index l.list) ≡ Ok l.numbers.items
