use Rattle.rdl_block_numbers.specs.Texts.{AreTextsTo}
use Rattle.rdl_block_numbers.proofs.table.path_texts.Given as goal

abbrev pub invariant-loop-at : goal.invariant-loop-at
invariant-loop-at l = AreTextsTo l.elab l.at l.texts
