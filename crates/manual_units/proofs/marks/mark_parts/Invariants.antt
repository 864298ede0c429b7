use Rattle.std.proofs.Common.{◌≡◌, fold, take}
use Rattle.manual_units.specs.Marks.{mark_part}
use Rattle.manual_units.proofs.marks.mark_parts.Given as goal

abbrev pub invariant-loop-part : goal.invariant-loop-part
invariant-loop-part l = l.marks.items ≡ fold (mark_part l.block l.shown) l.initial.marks.items (take l.part-index l.parts)
