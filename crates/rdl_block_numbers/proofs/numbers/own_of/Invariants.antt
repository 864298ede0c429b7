use Rattle.rdl_block_numbers.specs.Numbers.{AreOwnTo}
use Rattle.rdl_block_numbers.proofs.numbers.own_of.Given as goal

abbrev pub invariant-loop-at : goal.invariant-loop-at
invariant-loop-at l = AreOwnTo l.elab l.at l.own.items
