use Rattle.std.proofs.Common.{◌≡◌, take}
use Rattle.vcd_syntax.specs.Meaning.{pins_by}
use Rattle.vcd_reader.proofs.pins.pins_of.Given as goal

abbrev pub invariant-loop-at : goal.invariant-loop-at
invariant-loop-at l = l.pins.items ≡ pins_by (take l.at l.names) (take l.at l.widths)
