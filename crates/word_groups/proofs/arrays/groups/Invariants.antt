use Rattle.std.proofs.Common.{◌≡◌, take}
use Rattle.word_groups.specs.Arrays.{groups}
use Rattle.word_groups.specs.Places.{ArePlacesOf}
use Rattle.word_groups.proofs.arrays.groups.Given as goal

abbrev pub invariant-loop-index : goal.invariant-loop-index
invariant-loop-index l = record {
  groups : l.groups.items ≡ groups (take l.index l.entries);
  places : ArePlacesOf l.groups.items l.places;
}
