use Rattle.std.proofs.Common.{take}
use Rattle.cyc_sim.specs.Preparing.{ArePlaced}
use Rattle.cyc_sim.proofs.prepare.place_pins.Given as goal

abbrev pub invariant-loop-index : goal.invariant-loop-index
invariant-loop-index l = ArePlaced (take l.index l.pins) l.first l.placed
