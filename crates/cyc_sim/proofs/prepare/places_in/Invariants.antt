use Rattle.std.proofs.Common.{take}
use Rattle.cyc_sim.specs.Preparing.{ArePlacesOf}
use Rattle.cyc_sim.proofs.prepare.places_in.Given as goal

abbrev pub invariant-loop-pin : goal.invariant-loop-pin
invariant-loop-pin l = ArePlacesOf l.known (take l.pin-index l.pins) l.places.items
