use Rattle.rdl_bind.specs.Numbered.{AreNumbersTo}
use Rattle.rdl_bind.proofs.numbering.item_numbers.Given as goal

abbrev pub invariant-loop-at : goal.invariant-loop-at
invariant-loop-at l = AreNumbersTo l.elab l.at l.items.items l.places.items l.firsts.items
