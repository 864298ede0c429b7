use Rattle.std.proofs.Common.{◌≡◌, true, take}
use Rattle.std.specs.List.{list_all}
use Rattle.word_groups.specs.Arrays.{is_element}
use Rattle.word_groups.proofs.arrays.is_array.Given as goal

abbrev pub invariant-loop-entry : goal.invariant-loop-entry
invariant-loop-entry l = list_all (is_element l.first l.strides) (take l.entry-index l.entries) ≡ true
