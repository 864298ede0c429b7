use Rattle.std.proofs.Common.{◌≡◌, take}
use Rattle.word_groups.specs.Arrays.{stride_at}
use Rattle.word_groups.proofs.arrays.stride_at.Given as goal

abbrev pub invariant-loop-entry : goal.invariant-loop-entry
invariant-loop-entry l = l.stride ≡ stride_at l.address (take l.entry-index l.entries) l.place
