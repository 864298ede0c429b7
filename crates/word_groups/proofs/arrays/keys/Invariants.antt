use Rattle.std.proofs.Common.{◌≡◌, map, take}
use Rattle.word_groups.specs.Arrays.{key}
use Rattle.word_groups.proofs.arrays.keys.Given as goal

abbrev pub invariant-loop-entry : goal.invariant-loop-entry
invariant-loop-entry l = l.keys.items ≡ map key (take l.entry-index l.entries)
