use Rattle.std.proofs.Common.{◌≡◌, None, drop}
use Rattle.rdl_lexer.proofs.Values.{value_behind}
use Rattle.rdl_lexer.proofs.numbers.value_of.Given as goal

abbrev pub invariant-loop-b : goal.invariant-loop-b
invariant-loop-b l = value_behind l.bits l.base l.value (drop l.b-index l.run) ≡ value_behind l.bits l.base None l.run
