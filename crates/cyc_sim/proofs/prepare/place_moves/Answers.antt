use Rattle.std.proofs.lemmas.Map.Text.{btree_map_updates_str}
use Rattle.v_design.specs.Seen.{module_seen, step_seen}
use Rattle.cyc_sim.proofs.Compiling.{below_more, extends_both}
use Rattle.cyc_sim.proofs.Stages.{still_prepared, more_moving}
use Rattle.cyc_sim.proofs.Ordering.{step-of, steps-past}
use Rattle.cyc_sim.proofs.Standing.{ready-all, registers-all, registers-more, registers-skip, reset-known}
use Rattle.cyc_sim.proofs.Statements.{statement_acts, updated_at}
use Rattle.cyc_sim.proofs.prepare.place_moves.Goals as goal

pub guarded-requires-clause-known : goal.guarded-requires-clause-known
guarded-requires-clause-known c = below_more c.args.known.now c.loop-stmt.listing c.compile.new.listing c.in_ok-next.ensures.extends c.loop-stmt.invariant.prepared.below

pub loop-stmt-preserved : goal.loop-stmt-preserved
loop-stmt-preserved c =
    let m = module_seen c.args.design.now in
    let acts = statement_acts c.args.design.now c.requires.accepted c.deref-stmt-items.result.now c.loop-stmt.stmt-index c.stmt-item.result c.deref-stmt-items.ensures.value c.loop-stmt-test.true c.stmt-item.is in
    let at = step-of c.args.design.now.stmts.items c.deref-stmt-items.result.now c.loop-stmt.stmt-index c.stmt-item.result c.deref-stmt-items.ensures.value c.loop-stmt-test.true c.stmt-item.is in
    let updated = updated_at c.loop-stmt.moves c.insert.new.self c.bytes_of.result.now _ c.in_ok-wire.wire c.bytes_of.ensures
    (btree_map_updates_str c.bytes_of.result.now c.loop-stmt.moves c.insert.new.self _ c.in_ok-insert.ensures.updates) in
    record {
      prepared = still_prepared m c.args.known.now c.loop-stmt.listing c.guarded.new.listing c.loop-stmt.invariant.prepared (extends_both c.loop-stmt.listing c.compile.new.listing c.guarded.new.listing c.in_ok-next.ensures.extends c.in_ok-wire.ensures.extends);
      moving = more_moving m c.args.known.now c.loop-stmt.moves c.insert.new.self c.loop-stmt.listing c.compile.new.listing c.guarded.new.listing (step_seen c.stmt-item.result) c.in_ok-next.next c.in_ok-wire.wire
          c.loop-stmt.invariant.prepared c.loop-stmt.invariant.moving c.if-not-stmt.false acts.sound acts.moved c.in_ok-next.ensures c.in_ok-wire.ensures updated;
      registers = registers-more c.loop-stmt.moves c.insert.new.self m.steps c.loop-stmt.stmt-index (step_seen c.stmt-item.result) c.in_ok-wire.wire at updated c.loop-stmt.invariant.registers;
    }

pub compile-requires-clause-ready : goal.compile-requires-clause-ready
compile-requires-clause-ready c =
    ready-all (module_seen c.args.design.now) c.requires.accepted c.args.known.now c.loop-stmt.stmt-index (step_seen c.stmt-item.result) c.loop-stmt.invariant.prepared.wide c.requires.pins c.requires.nets
    (step-of c.args.design.now.stmts.items c.deref-stmt-items.result.now c.loop-stmt.stmt-index c.stmt-item.result c.deref-stmt-items.ensures.value c.loop-stmt-test.true c.stmt-item.is)

pub guarded-requires-clause-pin : goal.guarded-requires-clause-pin
guarded-requires-clause-pin c =
    reset-known (module_seen c.args.design.now) c.requires.accepted c.args.known.now c.loop-stmt.stmt-index (step_seen c.stmt-item.result) c.requires.pins
    (step-of c.args.design.now.stmts.items c.deref-stmt-items.result.now c.loop-stmt.stmt-index c.stmt-item.result c.deref-stmt-items.ensures.value c.loop-stmt-test.true c.stmt-item.is)

pub returns-clause-registers : goal.returns-clause-registers
returns-clause-registers c =
    registers-all c.loop-stmt.moves (module_seen c.args.design.now).steps c.loop-stmt.stmt-index (steps-past c.args.design.now.stmts.items c.deref-stmt-items.result.now c.loop-stmt.stmt-index c.deref-stmt-items.ensures.value c.loop-stmt-test.false)
    c.loop-stmt.invariant.registers

pub loop-stmt-preserved-then-not-stmt : goal.loop-stmt-preserved-then-not-stmt
loop-stmt-preserved-then-not-stmt c = record {
  prepared = c.loop-stmt.invariant.prepared;
  moving = c.loop-stmt.invariant.moving;
  registers = registers-skip c.loop-stmt.moves (module_seen c.args.design.now).steps c.loop-stmt.stmt-index (step_seen c.stmt-item.result)
      (step-of c.args.design.now.stmts.items c.deref-stmt-items.result.now c.loop-stmt.stmt-index c.stmt-item.result c.deref-stmt-items.ensures.value c.loop-stmt-test.true c.stmt-item.is) c.if-not-stmt.true c.loop-stmt.invariant.registers;
}
