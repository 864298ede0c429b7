use Rattle.std.proofs.Common.{◌≡◌, ◌<◌, ℕ, Some, slice_get, length}
use Rattle.rb_model.specs.declared.block.Signal.{Signal}
use Rattle.rb_model.specs.Ports.{signal_name}
use Rattle.block_plan.specs.Plan.{IsPlaceOf}
use Rattle.block_plan.proofs.places.Places.signals.Given as goal

abbrev pub invariant-loop-signal : goal.invariant-loop-signal
invariant-loop-signal l = record {
  sized : length l.places.items ≡ l.signal-index;
  placed : (k : ℕ) (s : Signal) → k < l.signal-index → slice_get l.signals k ≡ Some s → (place : ℕ) × (slice_get l.places.items k ≡ Some place) × IsPlaceOf l.self.block.now (signal_name s) place;
}
