use Rattle.rdl_block_numbers.specs.Numbers.{AreViewedTo}
use Rattle.rdl_block_numbers.proofs.numbers.viewed_numbers.Given as goal

abbrev pub invariant-loop-at : goal.invariant-loop-at
invariant-loop-at l = AreViewedTo l.elab l.at l.viewed.items
