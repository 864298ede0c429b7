use Rattle.std.proofs.Common.{◌≡◌, ℕ, ◌+◌, ◌<◌, ◌≤◌, ◌^◌, drop, false, length}
use Rattle.std.specs.Fmt.{digits, digits_onto}
use Rattle.rb_base.proofs.hex.hex_digits.Given as goal

abbrev pub invariant-loop-left : goal.invariant-loop-left
invariant-loop-left l = record {
  some : 1 ≤ l.at;
  within : l.at ≤ 32;
  count : length l.bytes ≡ 32;
  fits : l.left < 16 ^ l.at;
  digits : digits_onto (32 + l.at) 16 false l.left (drop l.at l.bytes) ≡ digits 16 false l.number;
}

abbrev pub decreases-loop-left : goal.decreases-loop-left
decreases-loop-left l = l.left
