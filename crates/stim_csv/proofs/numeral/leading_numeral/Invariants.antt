use Rattle.std.proofs.Common.{◌≡◌, true, take}
use Rattle.std.specs.List.{list_all}
use Rattle.std.specs.Char.{is_digit}
use Rattle.std.specs.Str.Parse.{digits_value}
use Rattle.stim_csv.proofs.numeral.leading_numeral.Given as goal

abbrev pub invariant-loop-count : goal.invariant-loop-count
invariant-loop-count l = record {
  digits : list_all (λ b. is_digit b l.radix) (take l.count l.text) ≡ true;
  number : l.number ≡ digits_value l.radix (take l.count l.text);
}
