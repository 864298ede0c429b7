use Rattle.std.proofs.Common.{◌≡◌, flat_map, take}
use Rattle.word_groups.specs.Parts.{part_of}
use Rattle.word_groups.proofs.parts.parts_of.Given as goal

abbrev pub invariant-loop-slot : goal.invariant-loop-slot
invariant-loop-slot l = l.items.items ≡ flat_map (part_of l.block) (take l.slot-index l.word.slots)
