use Rattle.std.proofs.Common.{◌≡◌, take}
use Rattle.word_groups.specs.Arrays.{at_each, length_at}
use Rattle.word_groups.proofs.arrays.lengths_of.Given as goal

abbrev pub invariant-loop-place : goal.invariant-loop-place
invariant-loop-place l = l.items.items ≡ at_each (length_at l.entries) (take l.place l.first.indices)
