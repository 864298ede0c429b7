use Rattle.std.proofs.Common.{◌≡◌, ◌++◌, take}
use Rattle.word_groups.proofs.arrays.push_copies.Given as goal

abbrev pub invariant-loop-entry : goal.invariant-loop-entry
invariant-loop-entry l = l.into.items ≡ l.initial.into.items ++ take l.entry-index l.entries
