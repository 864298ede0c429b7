use Rattle.std.proofs.Common.{take}
use Rattle.cyc_sim.specs.Narrow.{AreNarrow}
use Rattle.cyc_sim.proofs.narrowing.are_narrow.Given as goal

abbrev pub invariant-loop-pin : goal.invariant-loop-pin
invariant-loop-pin l = AreNarrow (take l.pin-index l.pins)
