use Rattle.std.proofs.Common.{◌≡◌, filter, map, take}
use Rattle.word_groups.specs.Paths.{is_index, number_of}
use Rattle.word_groups.proofs.paths.indices.Given as goal

abbrev pub invariant-loop-piece : goal.invariant-loop-piece
invariant-loop-piece l = l.items.items ≡ map number_of (filter is_index (take l.piece-index l.piece-items))
