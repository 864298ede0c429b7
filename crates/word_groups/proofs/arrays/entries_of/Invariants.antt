use Rattle.std.proofs.Common.{◌≡◌, flat_map, take}
use Rattle.word_groups.specs.Arrays.{entries_of}
use Rattle.word_groups.proofs.arrays.entries_of.Given as goal

abbrev pub invariant-loop-group : goal.invariant-loop-group
invariant-loop-group l = l.entries.items ≡ flat_map entries_of (take l.group-index l.group-items)
