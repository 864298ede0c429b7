use Rattle.std.proofs.Common.{◌≡◌, ◌<◌, ◌^◌, take}
use Rattle.std.specs.Str.Parse.{digits_value}
use Rattle.rb_grammar_example.proofs.lexer.number_value.Given as goal

abbrev pub invariant-loop-b : goal.invariant-loop-b
invariant-loop-b l = record { is : l.value ≡ digits_value 10 (take l.b-index l.text); fits : l.value < 2 ^ 64 }
