use Rattle.std.proofs.Common.{◌≡◌, ℕ, take}
use Rattle.rb_machine.specs.Scene.{mark_at, no_mark}
use Rattle.rb_machine.specs.Slots.{touched_by}
use Rattle.rb_machine.proofs.slots.unmark.Given as goal

abbrev pub invariant-loop-slot : goal.invariant-loop-slot
invariant-loop-slot l = (k : ℕ) → mark_at l.marks k ≡ touched_by l.block k (λ w s m. no_mark) (mark_at l.fn.marks k) (take l.slot-index l.slot-items)
