use Rattle.std.proofs.Common.{◌≡◌, map, take}
use Rattle.v_design.specs.Seen.{step_seen}
use Rattle.cyc_sim.specs.Order.{all_needs, driver_at}
use Rattle.cyc_sim.proofs.order.needs_of_each.Given as goal

abbrev pub invariant-loop-stmt : goal.invariant-loop-stmt
invariant-loop-stmt l = l.needs ≡ all_needs (driver_at l.drivers) (map step_seen (take l.stmt-index l.stmts))
