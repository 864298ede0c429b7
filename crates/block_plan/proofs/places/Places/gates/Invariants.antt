use Rattle.std.proofs.Common.{◌≡◌, ◌<◌, ℕ, Some, codes, slice_get, length}
use Rattle.rb_model.specs.declared.block.View.{View}
use Rattle.block_plan.specs.Plan.{IsGatePlace}
use Rattle.block_plan.proofs.places.Places.gates.Given as goal

abbrev pub invariant-loop-view : goal.invariant-loop-view
invariant-loop-view l = record {
  sized : length l.places.items ≡ l.view-index;
  placed : (k : ℕ) (v : View) → k < l.view-index → slice_get l.views k ≡ Some v → (place : ℕ) × (slice_get l.places.items k ≡ Some place) × IsGatePlace l.self.block.now v.gate (codes "swwe$") (codes "swwel$") v.path place;
}
