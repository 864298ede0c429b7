use Rattle.std.proofs.Common.{map, sym, subst}
use Rattle.topological_order.specs.Levels.{AreLevels, AreWithin}
use Rattle.v_design.specs.Seen.{step_seen}
use Rattle.cyc_sim.specs.Order.{driver_at}
use Rattle.cyc_sim.proofs.Ordering.{order-within, settling-order}
use Rattle.cyc_sim.proofs.order.settling_order.Goals as goal

pub levelize-requires : goal.levelize-requires
levelize-requires c =
    subst AreWithin (sym c.in_ok-needs.ensures) (order-within c.in_ok-drivers.drivers (map step_seen c.args.stmts.now) c.in_ok-drivers.ensures)

pub returns : goal.returns
returns c =
    let ss = map step_seen c.args.stmts.now in
    let number = driver_at c.in_ok-drivers.drivers in
    let levels = c.in_ok-order.field-0 in
    settling-order c.in_ok-drivers.drivers ss c.in_ok-drivers.ensures c.requires levels.ranks.items levels.order.items
    (subst (λ needs. AreLevels needs levels.ranks.items levels.order.items) c.in_ok-needs.ensures c.in_ok-order.ensures)
