use Rattle.std.proofs.Common.{◌≡◌, true, take}
use Rattle.std.specs.List.{list_all}
use Rattle.vcd_syntax.specs.Faulty.{is_known_bit}
use Rattle.vcd_reader.proofs.exits.are_known.Given as goal

abbrev pub invariant-loop-bit : goal.invariant-loop-bit
invariant-loop-bit l = list_all is_known_bit (take l.bit-index l.bits) ≡ true
