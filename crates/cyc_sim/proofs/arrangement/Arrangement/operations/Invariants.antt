use Rattle.std.proofs.Common.{take}
use Rattle.std.specs.List.{AllZip}
use Rattle.cyc_sim.specs.Arranged.{StandsAt}
use Rattle.cyc_sim.proofs.arrangement.Arrangement.operations.Given as goal

abbrev pub invariant-loop-old : goal.invariant-loop-old
invariant-loop-old l = AllZip (StandsAt l.self l.operations) (take l.old-index l.self.order.items) l.all.items
