use Rattle.std.proofs.Common.{◌≡◌, ◌<◌, ℕ, Some, slice_get, length}
use Rattle.rb_model.specs.declared.block.Field.{Field}
use Rattle.block_plan.specs.declared.plan.FieldPlaces.{FieldPlaces}
use Rattle.block_plan.specs.Plan.{AreFieldPlaces}
use Rattle.block_plan.proofs.places.Places.fields.Given as goal

abbrev pub invariant-loop-field : goal.invariant-loop-field
invariant-loop-field l = record {
  sized : length l.places.items ≡ l.field-index;
  placed : (k : ℕ) (f : Field) → k < l.field-index → slice_get l.fields k ≡ Some f → (p : FieldPlaces) × (slice_get l.places.items k ≡ Some p) × AreFieldPlaces l.self.block.now f p;
}
