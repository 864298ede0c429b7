use Rattle.rdl_bits.specs.Tabled.{AreBitsTo}
use Rattle.rdl_bits.proofs.table.bit_table.Given as goal

abbrev pub invariant-loop-at : goal.invariant-loop-at
invariant-loop-at l = AreBitsTo l.props l.at l.table
