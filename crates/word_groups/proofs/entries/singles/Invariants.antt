use Rattle.std.proofs.Common.{◌≡◌, flat_map, map, take}
use Rattle.std.specs.List.{enumerate_from}
use Rattle.word_groups.specs.Entries.{single, words_at}
use Rattle.word_groups.proofs.entries.singles.Given as goal

abbrev pub invariant-loop-at : goal.invariant-loop-at
invariant-loop-at l = l.words.items ≡ map (single l.block) (flat_map (words_at l.block) (enumerate_from 0 (take l.at l.block.reads)))
