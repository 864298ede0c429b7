use Rattle.std.proofs.Common.{◌≡◌, ◌<◌, ◌≤◌, ◌-◌, ℕ, Some, false, if◌then◌else◌, length, slice_get}
use Rattle.rb_model.specs.declared.block.Field.{Field}
use Rattle.rb_model.specs.Items.{NoAccess}
use Rattle.rb_machine.specs.Moves.{started_state}
use Rattle.rb_machine.specs.Quiet.{rests}
use Rattle.rb_machine.specs.Scene.{now_in, state_at}
use Rattle.rb_machine.specs.Table.{values_of}
use Rattle.rb_machine.proofs.moves.start.Given as goal

abbrev pub invariant-loop-number : goal.invariant-loop-number
invariant-loop-number l = record {
  moved : (k : ℕ) (f : Field) → k < l.number → slice_get l.scene.block.now.fields k ≡ Some f
      → state_at l.states k ≡ (if rests l.scene.is_reset f then state_at l.fn.states k else started_state (now_in l.scene NoAccess) (values_of l.table) k f (state_at l.scene.held.now.fields.items k));
  later : (k : ℕ) → l.number ≤ k → state_at l.states k ≡ state_at l.fn.states k;
  awake : (f : Field) → slice_get l.scene.block.now.fields l.number ≡ Some f → rests l.scene.is_reset f ≡ false;
}

abbrev pub decreases-loop-number : goal.decreases-loop-number
decreases-loop-number l = length l.states - l.number
