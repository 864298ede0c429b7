use Rattle.rdl_block_numbers.specs.Named.{AreNamesTo}
use Rattle.rdl_block_numbers.proofs.fields.names_of.Given as goal

abbrev pub invariant-loop-at : goal.invariant-loop-at
invariant-loop-at l = AreNamesTo l.elab l.at l.names
