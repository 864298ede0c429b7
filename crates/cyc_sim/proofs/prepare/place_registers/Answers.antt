use Rattle.v_design.specs.Design.{inputs}
use Rattle.std.proofs.lemmas.Map.Text.{btree_map_updates_str}
use Rattle.v_design.specs.Seen.{module_seen, step_seen}
use Rattle.cyc_sim.proofs.Stages.{kept_below, register_prepared}
use Rattle.cyc_sim.proofs.Ordering.{step-of, steps-past}
use Rattle.cyc_sim.proofs.Standing.{pins-still, register-known, registers-all, registers-more, registers-skip, reset-known}
use Rattle.cyc_sim.proofs.Statements.{statement_acts, updated_at}
use Rattle.cyc_sim.proofs.prepare.place_registers.Goals as goal

pub wire_of-contents-requires : goal.wire_of-contents-requires
wire_of-contents-requires c =
    register-known (module_seen c.args.design.now) c.requires.accepted c.args.kept.now c.loop-stmt.stmt-index (step_seen c.stmt-item.result) c.requires.kept.each
    (step-of c.args.design.now.stmts.items c.deref-stmt-items.result.now c.loop-stmt.stmt-index c.stmt-item.result c.deref-stmt-items.ensures.value c.loop-stmt-test.true c.stmt-item.is) c.if-not-stmt.false

pub guarded-requires-clause-pin : goal.guarded-requires-clause-pin
guarded-requires-clause-pin c =
    reset-known (module_seen c.args.design.now) c.requires.accepted c.loop-stmt.known c.loop-stmt.stmt-index (step_seen c.stmt-item.result) c.loop-stmt.invariant.pins
    (step-of c.args.design.now.stmts.items c.deref-stmt-items.result.now c.loop-stmt.stmt-index c.stmt-item.result c.deref-stmt-items.ensures.value c.loop-stmt-test.true c.stmt-item.is)

pub guarded-requires-clause-next : goal.guarded-requires-clause-next
guarded-requires-clause-next c = kept_below (module_seen c.args.design.now) c.loop-stmt.known c.args.kept.now c.loop-stmt.listing _ c.wire_of-contents.result c.loop-stmt.invariant.prepared c.requires.kept c.wire_of-contents.ensures

pub loop-stmt-preserved : goal.loop-stmt-preserved
loop-stmt-preserved c =
    let m = module_seen c.args.design.now in
    let acts = statement_acts c.args.design.now c.requires.accepted c.deref-stmt-items.result.now c.loop-stmt.stmt-index c.stmt-item.result c.deref-stmt-items.ensures.value c.loop-stmt-test.true c.stmt-item.is in
    let at = step-of c.args.design.now.stmts.items c.deref-stmt-items.result.now c.loop-stmt.stmt-index c.stmt-item.result c.deref-stmt-items.ensures.value c.loop-stmt-test.true c.stmt-item.is in
    let updated = updated_at c.loop-stmt.known c.insert.new.self c.bytes_of.result.now _ c.in_ok-wire.wire c.bytes_of.ensures
    (btree_map_updates_str c.bytes_of.result.now c.loop-stmt.known c.insert.new.self _ c.in_ok-insert.ensures.updates) in
    record {
      prepared = register_prepared m c.loop-stmt.known c.insert.new.self c.args.kept.now c.loop-stmt.listing c.guarded.new.listing (step_seen c.stmt-item.result) c.wire_of-contents.result c.in_ok-wire.wire c.requires.accepted c.loop-stmt.invariant.prepared c.requires.kept
          c.if-not-stmt.false acts.sound acts.settled c.wire_of-contents.ensures c.in_ok-wire.ensures updated;
      pins = pins-still c.loop-stmt.known c.insert.new.self _ c.in_ok-wire.wire updated (inputs m) c.loop-stmt.invariant.pins;
      registers = registers-more c.loop-stmt.known c.insert.new.self m.steps c.loop-stmt.stmt-index (step_seen c.stmt-item.result) c.in_ok-wire.wire at updated c.loop-stmt.invariant.registers;
    }

pub returns-clause-registers : goal.returns-clause-registers
returns-clause-registers c =
    registers-all c.loop-stmt.known (module_seen c.args.design.now).steps c.loop-stmt.stmt-index (steps-past c.args.design.now.stmts.items c.deref-stmt-items.result.now c.loop-stmt.stmt-index c.deref-stmt-items.ensures.value c.loop-stmt-test.false)
    c.loop-stmt.invariant.registers

pub loop-stmt-preserved-then-not-stmt : goal.loop-stmt-preserved-then-not-stmt
loop-stmt-preserved-then-not-stmt c = record {
  prepared = c.loop-stmt.invariant.prepared;
  pins = c.loop-stmt.invariant.pins;
  registers = registers-skip c.loop-stmt.known (module_seen c.args.design.now).steps c.loop-stmt.stmt-index (step_seen c.stmt-item.result)
      (step-of c.args.design.now.stmts.items c.deref-stmt-items.result.now c.loop-stmt.stmt-index c.stmt-item.result c.deref-stmt-items.ensures.value c.loop-stmt-test.true c.stmt-item.is) c.if-not-stmt.true c.loop-stmt.invariant.registers;
}
