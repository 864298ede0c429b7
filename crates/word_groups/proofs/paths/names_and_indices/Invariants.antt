use Rattle.std.proofs.Common.{◌≡◌, ◌++◌, length}
use Rattle.word_groups.specs.Paths.{is_dollar}
use Rattle.std.specs.List.{slice_split}
use Rattle.word_groups.proofs.Pieces.{glued}
use Rattle.word_groups.proofs.paths.names_and_indices.Given as goal

abbrev pub invariant-loop-rest : goal.invariant-loop-rest
invariant-loop-rest l = l.pieces.items ++ glued l.piece.items (slice_split is_dollar l.rest) ≡ slice_split is_dollar l.fn.path

abbrev pub decreases-loop-rest : goal.decreases-loop-rest
decreases-loop-rest l = length l.rest
