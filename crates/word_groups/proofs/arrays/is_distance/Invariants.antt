use Rattle.std.proofs.Common.{◌≡◌, ◌==◌, length}
use Rattle.word_groups.specs.Arrays.{distance}
use Rattle.word_groups.proofs.arrays.is_distance.Given as goal

abbrev pub invariant-loop-rest : goal.invariant-loop-rest
invariant-loop-rest l = (l.left == distance l.rest l.others) ≡ (l.fn.distance == distance l.fn.strides l.fn.indices)

abbrev pub decreases-loop-rest : goal.decreases-loop-rest
decreases-loop-rest l = length l.rest
