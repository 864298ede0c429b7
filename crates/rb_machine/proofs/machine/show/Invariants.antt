use Rattle.std.proofs.Common.{◌≡◌, ◌+◌, ◌∷◌, length, map, slice_index, take}
use Rattle.rb_machine.proofs.machine.show.Given as goal

abbrev pub invariant-loop-index : goal.invariant-loop-index
invariant-loop-index l = record {
  sized : length l.outs ≡ 3 + length l.places;
  values : take (l.index + 3) l.outs ≡ l.fn.bus.ready ∷ l.fn.bus.«data» ∷ l.fn.bus.error ∷ map (slice_index l.table) (take l.index l.places);
}
