use Rattle.std.proofs.Common.{◌≡◌, ◌<◌, ◌≤◌, ℕ, Some, not, ◌&&◌, slice_get}
use Rattle.rb_model.specs.declared.block.Field.{Field}
use Rattle.rb_model.specs.Machine as spec
use Rattle.rb_model.specs.Run.{pins_of}
use Rattle.rb_machine.specs.Moves as moves
use Rattle.rb_machine.specs.Scene.{state_at}
use Rattle.rb_machine.proofs.reset.hold_fields.Given as goal

abbrev pub invariant-loop-number : goal.invariant-loop-number
invariant-loop-number l = record {
  held : (k : ℕ) (f : Field) → k < l.number → slice_get l.block.fields k ≡ Some f
      → state_at l.states k ≡ moves.reset_state f (spec.is_asserted l.block (pins_of l.block l.pins) f.reset_by && not f.reset_by.sync) (state_at l.fn.states k);
  later : (k : ℕ) → l.number ≤ k → state_at l.states k ≡ state_at l.fn.states k;
}
