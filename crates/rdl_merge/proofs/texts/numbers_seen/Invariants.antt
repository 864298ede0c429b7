use Rattle.std.proofs.Common.{◌≡◌, flat_map, take}
use Rattle.rdl_values.specs.Values.{Around, number_of}
use Rattle.rdl_failures.specs.Shown.{IsShown}
use Rattle.rdl_layers.specs.Settings.{given}
use Rattle.rdl_merge.proofs.texts.numbers_seen.Given as goal

abbrev pub invariant-loop-expr : goal.invariant-loop-expr
invariant-loop-expr l = (env : Around) → IsShown l.visible env → l.list.items ≡ flat_map (λ e. given (number_of env e)) (take l.expr-index l.exprs)
