use Rattle.std.proofs.Common.{◌≡◌, ℕ, take}
use Rattle.rb_machine.specs.Scene.{state_at}
use Rattle.rb_machine.specs.Slots.{touched_by}
use Rattle.rb_machine.proofs.slots.take_word.Given as goal

abbrev pub invariant-loop-slot : goal.invariant-loop-slot
invariant-loop-slot l = (k : ℕ) → state_at l.fields k ≡ touched_by l.block k (λ w s x. state_at l.states w.field) (state_at l.fn.fields k) (take l.slot-index l.slot-items)
