use Rattle.std.proofs.Common.{◌≡◌, take}
use Rattle.std.specs.Str.Parse.{digits_value}
use Rattle.vcd_syntax.specs.Numbers.{within}
use Rattle.vcd_syntax.proofs.numbers.long_binary.Given as goal

abbrev pub invariant-loop-b : goal.invariant-loop-b
invariant-loop-b l = l.number ≡ within 128 (digits_value 2 (take l.b-index l.digits))
