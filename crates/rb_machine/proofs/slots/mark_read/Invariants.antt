use Rattle.std.proofs.Common.{◌≡◌, ℕ, take}
use Rattle.rb_machine.specs.Scene.{mark_at}
use Rattle.rb_machine.specs.Slots.{read_mark, touched_by}
use Rattle.rb_machine.proofs.slots.mark_read.Given as goal

abbrev pub invariant-loop-slot : goal.invariant-loop-slot
invariant-loop-slot l = (k : ℕ) → mark_at l.marks k ≡ touched_by l.block k read_mark (mark_at l.fn.marks k) (take l.slot-index l.slot-items)
