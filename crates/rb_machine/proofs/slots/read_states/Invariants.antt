use Rattle.std.proofs.Common.{◌≡◌, ℕ, take}
use Rattle.rb_machine.specs.Scene.{state_at}
use Rattle.rb_machine.specs.Slots.{read_state, touched_by}
use Rattle.rb_machine.proofs.slots.read_states.Given as goal

abbrev pub invariant-loop-slot : goal.invariant-loop-slot
invariant-loop-slot l = (k : ℕ) → state_at l.states k ≡ touched_by l.block k (read_state l.block) (state_at l.fn.states k) (take l.slot-index l.slot-items)
