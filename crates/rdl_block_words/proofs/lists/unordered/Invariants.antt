use Rattle.std.proofs.Common.{◌≡◌, ◌++◌, List, drop, filter, flat_map}
use Rattle.rdl_tree.specs.declared.node.Elab.{Elab}
use Rattle.rdl_addr.specs.Layout.{Placed}
use Rattle.rdl_rules.specs.Numbers.{numbered}
use Rattle.rdl_rules.specs.Words.{words_of}
use Rattle.rdl_block_words.specs.Access.{words_for}
use Rattle.rdl_block_words.specs.Entries.{AreEntriesOf}
use Rattle.rdl_block_words.proofs.Masked.{keeps}
use Rattle.rdl_block_words.proofs.lists.unordered.Given as goal

-- the words so far and those of the registers that are left are all
abbrev pub invariant-loop-entry : goal.invariant-loop-entry
invariant-loop-entry l = (e : Elab) (ps : List Placed) → AreEntriesOf e l.entries (numbered (λ p. p.node) ps) → l.words.items ++ flat_map words_of (filter (keeps l.access ps) (drop l.entry-index (numbered (λ p. p.node) ps))) ≡ words_for l.access ps
