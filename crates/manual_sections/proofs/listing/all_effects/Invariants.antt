use Rattle.std.proofs.Common.{◌≡◌, map, take}
use Rattle.manual_sections.specs.Rows.{part_effects}
use Rattle.manual_sections.proofs.listing.all_effects.Given as goal

abbrev pub invariant-loop-part : goal.invariant-loop-part
invariant-loop-part l = l.all.items ≡ map (part_effects l.block) (take l.part-index l.parts)
