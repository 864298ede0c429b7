use Rattle.std.proofs.Common.{◌≡◌, length, take}
use Rattle.cyc_sim.specs.Operations.{values_in}
use Rattle.cyc_sim.proofs.narrow_sim.read_narrow.Given as goal

abbrev pub invariant-loop-index : goal.invariant-loop-index
invariant-loop-index l = record {
  sized : length l.into ≡ length l.places;
  values : take l.index l.into ≡ values_in l.values (take l.index l.places);
}
