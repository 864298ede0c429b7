use Rattle.std.proofs.Common.{◌≡◌, ◌++◌, take}
use Rattle.v_design.specs.Expr.{nets_of_each}
use Rattle.cyc_sim.specs.Order.{driver_at, numbers_of}
use Rattle.cyc_sim.proofs.Concatenating.{listed}
use Rattle.cyc_sim.proofs.order.+needs_in.Given as goal

abbrev pub invariant-loop-part : goal.invariant-loop-part
invariant-loop-part l = l.needs.items ≡ l.fn.needs.items ++ numbers_of (driver_at l.drivers) (nets_of_each (listed (take l.part-index l.part-items)))
