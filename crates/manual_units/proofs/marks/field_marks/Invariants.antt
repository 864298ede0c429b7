use Rattle.std.proofs.Common.{◌≡◌, fold, length, take}
use Rattle.manual_units.specs.Marks.{mark_lot_fields, none_of}
use Rattle.manual_units.proofs.marks.field_marks.Given as goal

abbrev pub invariant-loop-lot : goal.invariant-loop-lot
invariant-loop-lot l = l.marks.items ≡ fold (mark_lot_fields l.block) (none_of (length l.block.fields)) (take l.lot-index l.lots)
