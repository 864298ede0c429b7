use Rattle.std.proofs.Common.{◌≡◌, true, take}
use Rattle.cyc_sim.specs.Operations.{are_places, values_in}
use Rattle.cyc_sim.proofs.arrangement.Arrangement.all.Given as goal

abbrev pub invariant-loop-old : goal.invariant-loop-old
invariant-loop-old l = record {
  same : l.places.items ≡ values_in l.self.places.items (take l.old-index l.olds);
  below : are_places l.limit l.places.items ≡ true;
}
