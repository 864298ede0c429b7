use Rattle.std.proofs.Common.{◌≡◌, ◌≤◌, fold, take}
use Rattle.word_groups.specs.Paths.{with_digit}
use Rattle.word_groups.proofs.paths.number_of.Given as goal

abbrev pub invariant-loop-digit : goal.invariant-loop-digit
invariant-loop-digit l = record {
  number : l.number ≡ fold with_digit 0 (take l.digit-index l.digits);
  within : l.number ≤ 99999999;
}
