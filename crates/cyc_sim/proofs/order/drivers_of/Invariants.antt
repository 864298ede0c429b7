use Rattle.std.proofs.Common.{map}
use Rattle.v_design.specs.Seen.{step_seen}
use Rattle.cyc_sim.proofs.Ordering.{DriversBelow}
use Rattle.cyc_sim.proofs.order.drivers_of.Given as goal

abbrev pub invariant-loop-index : goal.invariant-loop-index
invariant-loop-index l = DriversBelow l.drivers (map step_seen l.stmts) l.index
