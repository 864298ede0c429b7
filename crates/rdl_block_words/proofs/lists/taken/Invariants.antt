use Rattle.std.proofs.Common.{◌≡◌, ℕ, take}
use Rattle.std.specs.BTreeSet.{contains}
use Rattle.std.specs.Ordering.{nat_cmp}
use Rattle.rdl_block_words.specs.Access.{is_taken}
use Rattle.rdl_block_words.proofs.lists.taken.Given as goal

abbrev pub invariant-loop-entry : goal.invariant-loop-entry
invariant-loop-entry l = (a : ℕ) → contains nat_cmp l.addresses a ≡ is_taken l.access (take l.entry-index l.entries) a
