use Rattle.std.proofs.Common.{◌≡◌, ◌-◌, ◌<◌, ◌^◌, take, length, ◌++◌}
use Rattle.vcd_syntax.specs.Dump.{code_within, code}
use Rattle.vcd_printer.proofs.digits.code_digits.Given as goal

abbrev pub invariant-loop-left : goal.invariant-loop-left
invariant-loop-left l = record {
  within : l.len < 10;
  count : length l.bytes ≡ 10;
  fits : l.left < 94 ^ (10 - l.len);
  digits : take l.len l.bytes ++ code_within (10 - l.len) l.left ≡ code l.number;
}

abbrev pub decreases-loop-left : goal.decreases-loop-left
decreases-loop-left l = l.left
