use Rattle.std.proofs.Common.{◌≡◌, length}
use Rattle.word_groups.specs.Parts.{are_like}
use Rattle.word_groups.proofs.parts.are_like.Given as goal

abbrev pub invariant-loop-rest : goal.invariant-loop-rest
invariant-loop-rest l = are_like l.rest l.others ≡ are_like l.fn.a l.fn.b

abbrev pub decreases-loop-rest : goal.decreases-loop-rest
decreases-loop-rest l = length l.rest
