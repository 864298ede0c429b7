use Rattle.rdl_bits.specs.Found.{AreRegistersTo}
use Rattle.rdl_bits.proofs.list.registers.Given as goal

abbrev pub invariant-loop-at : goal.invariant-loop-at
invariant-loop-at l = AreRegistersTo l.props l.at l.registers.items
