use Rattle.std.proofs.Common.{◌≡◌, ◌<◌, ℕ, Some, slice_get}
use Rattle.std.specs.Prelude.{Contains}
use Rattle.rb_model.specs.declared.block.Field.{Field}
use Rattle.rb_machine.proofs.reset.reset_ways.Given as goal

abbrev pub invariant-loop-field : goal.invariant-loop-field
invariant-loop-field l = (k : ℕ) (f : Field) → k < l.field-index → slice_get l.fields k ≡ Some f → Contains l.ways.items f.reset_by
