use Rattle.std.proofs.Common.{◌≡◌, ◌++◌, length}
use Rattle.c_header.specs.Names.{words}
use Rattle.word_groups.specs.Paths.{behind}
use Rattle.c_header.proofs.Words.{left}
use Rattle.c_header.proofs.names.push_words.Given as goal

abbrev pub invariant-loop-rest : goal.invariant-loop-rest
invariant-loop-rest l = l.text.items ++ left l.is_inside l.rest ≡ l.fn.text.items ++ behind 95 (words l.fn.path)

abbrev pub decreases-loop-rest : goal.decreases-loop-rest
decreases-loop-rest l = length l.rest
