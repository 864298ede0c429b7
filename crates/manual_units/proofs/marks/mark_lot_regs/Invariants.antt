use Rattle.std.proofs.Common.{◌≡◌, fold, take}
use Rattle.manual_units.specs.Marks.{mark_reg}
use Rattle.manual_units.proofs.marks.mark_lot_regs.Given as goal

abbrev pub invariant-loop-word : goal.invariant-loop-word
invariant-loop-word l = l.marks.items ≡ fold (mark_reg l.lot.whole) l.initial.marks.items (take l.word-index l.lot.words)
