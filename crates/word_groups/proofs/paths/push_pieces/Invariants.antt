use Rattle.std.proofs.Common.{◌≡◌, ◌++◌, length}
use Rattle.word_groups.specs.Paths.{shown_pieces}
use Rattle.word_groups.proofs.paths.push_pieces.Given as goal

abbrev pub invariant-loop-rest : goal.invariant-loop-rest
invariant-loop-rest l = l.text.items ++ shown_pieces l.rest l.left ≡ l.fn.text.items ++ shown_pieces l.fn.pieces l.fn.lengths

abbrev pub decreases-loop-rest : goal.decreases-loop-rest
decreases-loop-rest l = length l.rest
