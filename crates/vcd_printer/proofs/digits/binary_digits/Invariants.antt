use Rattle.std.proofs.Common.{◌≡◌, ◌<◌, ◌≤◌, ◌^◌, drop, false, length}
use Rattle.std.specs.Fmt.{digits_onto}
use Rattle.vcd_syntax.specs.Dump.{binary}
use Rattle.vcd_printer.proofs.digits.binary_digits.Given as goal

abbrev pub invariant-loop-left : goal.invariant-loop-left
invariant-loop-left l = record {
  some : 1 ≤ l.at;
  within : l.at ≤ 128;
  count : length l.bytes ≡ 128;
  fits : l.left < 2 ^ l.at;
  digits : digits_onto l.at 2 false l.left (drop l.at l.bytes) ≡ binary l.number;
}

abbrev pub decreases-loop-left : goal.decreases-loop-left
decreases-loop-left l = l.left
