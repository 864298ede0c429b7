use Rattle.std.proofs.Common.{◌≡◌, ℕ, ◌<◌, Some, List, length, map, get_or, slice_get, refl, arith}
use Rattle.std.proofs.lemmas.List.{length-map}
use Rattle.std.proofs.lemmas.Map.Text.{btree_map_updates_str}
use Rattle.v_design.specs.Design.{inputs}
use Rattle.v_design.specs.Seen.{module_seen, step_seen}
use Rattle.v_design.specs.declared.design.Stmt.{Stmt}
use Rattle.cyc_sim.specs.Order.{IsSettlingOrder}
use Rattle.cyc_sim.proofs.Ordering.{step-at}
use Rattle.plain_lemmas.proofs.Lists.{get-at}
use Rattle.cyc_sim.proofs.Stages.{net_prepared}
use Rattle.cyc_sim.proofs.Standing.{before-more, knows-all, pins-still, ready-next}
use Rattle.cyc_sim.proofs.Statements.{statement_acts, updated_at}
use Rattle.cyc_sim.proofs.prepare.place_nets.Goals as goal

-- the next number of the order, and its statement
next : (items : List Stmt) (order : List ℕ) (p : ℕ) (x : Stmt) → IsSettlingOrder (map step_seen items) order → p < length order → x ≡ get_or items (get_or order p 0) x
    → (slice_get order p ≡ Some (get_or order p 0)) × (slice_get (map step_seen items) (get_or order p 0) ≡ Some (step_seen x)) × (get_or order p 0 < length items)
next items order p x o l is =
    let here = get-at order p 0 l in
    let k = o.within p (get_or order p 0) here in let same = length-map items step_seen in
    let low : get_or order p 0 < length items = omega (arith, k, same) in
    (here, step-at items (get_or order p 0) x low is, low)

pub compile-requires-clause-ready : goal.compile-requires-clause-ready
compile-requires-clause-ready c =
    let m = module_seen c.args.design.now in
    let n = next c.args.design.now.stmts.items c.args.order.now c.loop-index.index-index c.index-stmt.result.now c.requires.order c.loop-index-test.true c.index-stmt.ensures in
    ready-next m c.requires.accepted c.args.order.now c.requires.order c.loop-index.known c.loop-index.index-index _ (step_seen c.index-stmt.result.now) c.loop-index.invariant.prepared.wide c.loop-index.invariant.pins c.loop-index.invariant.before
    n.0 n.1 c.if-stmt.false

pub loop-index-preserved : goal.loop-index-preserved
loop-index-preserved c =
    let m = module_seen c.args.design.now in
    let x = c.index-stmt.result.now in
    let n = next c.args.design.now.stmts.items c.args.order.now c.loop-index.index-index x c.requires.order c.loop-index-test.true c.index-stmt.ensures in
    let acts = statement_acts c.args.design.now c.requires.accepted c.args.design.now.stmts.items _ x refl n.2 c.index-stmt.ensures in
    let updated = updated_at c.loop-index.known c.insert.new.self c.bytes_of.result.now _ c.in_ok-wire.wire c.bytes_of.ensures
    (btree_map_updates_str c.bytes_of.result.now c.loop-index.known c.insert.new.self _ c.in_ok-insert.ensures.updates) in
    record {
      prepared = net_prepared m c.loop-index.known c.insert.new.self c.loop-index.listing c.compile.new.listing (step_seen x) c.in_ok-wire.wire c.loop-index.invariant.prepared
          c.if-stmt.false acts.sound acts.settled c.in_ok-wire.ensures updated;
      pins = pins-still c.loop-index.known c.insert.new.self _ c.in_ok-wire.wire updated (inputs m) c.loop-index.invariant.pins;
      before = before-more c.loop-index.known c.insert.new.self m.steps c.args.order.now c.loop-index.index-index _ (step_seen x) c.in_ok-wire.wire n.0 n.1 updated c.loop-index.invariant.before;
    }

pub returns-clause-nets : goal.returns-clause-nets
returns-clause-nets c = knows-all (module_seen c.args.design.now) c.requires.accepted c.args.order.now c.requires.order c.loop-index.known c.loop-index.index-index c.loop-index-test.false c.loop-index.invariant.before
