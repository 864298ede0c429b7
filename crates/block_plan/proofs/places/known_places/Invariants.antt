use Rattle.std.proofs.Common.{◌≡◌, ◌≤◌, length, take}
use Rattle.v_design.specs.Design.{inputs_among}
use Rattle.block_plan.specs.Places.{AreKnown}
use Rattle.block_plan.proofs.places.known_places.Given as goal

abbrev pub invariant-loop-port : goal.invariant-loop-port
invariant-loop-port l = record {
  known : AreKnown (inputs_among (take l.port-index l.ports)) l.known;
  end : l.end ≡ length (inputs_among (take l.port-index l.ports));
  few : l.end ≤ l.port-index;
}
