use Rattle.std.proofs.Common.{◌≡◌, ℕ, take}
use Rattle.rb_model.specs.Items.{NoAccess}
use Rattle.rb_machine.specs.Scene.{now_in, state_at}
use Rattle.rb_machine.specs.Slots.{write_state, touched_by}
use Rattle.rb_machine.specs.Table.{values_of}
use Rattle.rb_machine.proofs.slots.write_states.Given as goal

abbrev pub invariant-loop-slot : goal.invariant-loop-slot
invariant-loop-slot l = (k : ℕ) → state_at l.states k ≡ touched_by l.scene.block.now k (write_state l.scene.block.now (now_in l.scene NoAccess) (values_of l.table) l.bits) (state_at l.fn.states k) (take l.slot-index l.slot-items)
