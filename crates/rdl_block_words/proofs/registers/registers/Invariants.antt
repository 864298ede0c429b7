use Rattle.rdl_block_words.specs.Entries.{AreEntriesTo}
use Rattle.rdl_block_words.proofs.registers.registers.Given as goal

abbrev pub invariant-loop-at : goal.invariant-loop-at
invariant-loop-at l = AreEntriesTo l.props l.at l.next l.entries.items
