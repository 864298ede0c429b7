use Rattle.std.proofs.Common.{◌≡◌, true, take}
use Rattle.std.specs.List.{list_all}
use Rattle.vcd_syntax.specs.Words.{is_bit}
use Rattle.vcd_syntax.proofs.words.all_are_bits.Given as goal

abbrev pub invariant-loop-byte : goal.invariant-loop-byte
invariant-loop-byte l = list_all is_bit (take l.byte-index l.bytes) ≡ true
