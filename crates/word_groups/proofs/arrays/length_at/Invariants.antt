use Rattle.std.proofs.Common.{◌≡◌, take}
use Rattle.word_groups.specs.Arrays.{length_at}
use Rattle.word_groups.proofs.arrays.length_at.Given as goal

abbrev pub invariant-loop-entry : goal.invariant-loop-entry
invariant-loop-entry l = l.length ≡ length_at (take l.entry-index l.entries) l.place
