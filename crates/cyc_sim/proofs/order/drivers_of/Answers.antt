use Rattle.std.proofs.Common.{◌+◌, map, sym, subst, arith}
use Rattle.std.proofs.lemmas.List.{length-map}
use Rattle.std.proofs.lemmas.Map.Text.{btree_map_updates_str}
use Rattle.v_design.specs.Seen.{step_seen}
use Rattle.cyc_sim.proofs.Ordering.{DriversBelow, drivers-all, drivers-more, drivers-skip, step-at}
use Rattle.cyc_sim.proofs.order.drivers_of.Goals as goal
use Rattle.cyc_sim.proofs.order.drivers_of.Goals.{then-not-stmt+in_ok-insert, else-not-stmt}

pub loop-index-preserved : goal.loop-index-preserved
loop-index-preserved c =
    let ss = map step_seen c.args.stmts.now in
    let i = c.loop-index.index in
    let s = step_seen c.index-stmts-index.result in
    let at = step-at c.args.stmts.now i c.index-stmts-index.result c.loop-index-test.true c.index-stmts-index.is in
    elim c.if-not-stmt.branch [
      | then-not-stmt+in_ok-insert w ↦ subst (λ d. DriversBelow d ss (i + 1)) (sym w.drivers-is)
          (drivers-more c.loop-index.drivers w.insert.new.self ss i s w.bytes_of.result.now at w.if-not-stmt.true w.bytes_of.ensures
          (btree_map_updates_str w.bytes_of.result.now c.loop-index.drivers w.insert.new.self _ w.in_ok-insert.ensures.updates) c.loop-index.invariant)
      | else-not-stmt w ↦ drivers-skip c.loop-index.drivers c.if-not-stmt.drivers ss i s at w.if-not-stmt.false w.drivers-is c.loop-index.invariant
    ]

pub returns : goal.returns
returns c =
    let same = length-map c.args.stmts.now step_seen in let l = c.loop-index-test.false in
    drivers-all c.loop-index.drivers (map step_seen c.args.stmts.now) c.loop-index.index (omega (arith, same, l)) c.loop-index.invariant
