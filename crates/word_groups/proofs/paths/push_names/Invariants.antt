use Rattle.std.proofs.Common.{◌≡◌, filter, take}
use Rattle.word_groups.specs.Paths.{behind, is_name}
use Rattle.word_groups.proofs.paths.push_names.Given as goal

abbrev pub invariant-loop-piece : goal.invariant-loop-piece
invariant-loop-piece l = l.names.items ≡ behind 36 (filter is_name (take l.piece-index l.piece-items))
