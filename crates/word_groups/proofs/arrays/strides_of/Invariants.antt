use Rattle.std.proofs.Common.{◌≡◌, take}
use Rattle.word_groups.specs.Arrays.{at_each, stride_at}
use Rattle.word_groups.proofs.arrays.strides_of.Given as goal

abbrev pub invariant-loop-place : goal.invariant-loop-place
invariant-loop-place l = l.items.items ≡ at_each (stride_at l.first.address l.entries) (take l.place l.first.indices)
