use Rattle.std.proofs.Common.{◌++◌, ap, sym, ◌∙◌, subst, length, replicate, map, arith}
use Rattle.v_design.specs.Design.{inputs, registers}
use Rattle.v_design.specs.Seen.{module_seen}
use Rattle.v_design.specs.Fits.{FitsPins}
use Rattle.std.proofs.lemmas.List.{with_items_is}
use Rattle.cyc_sim.proofs.Facts.{fits_length}
use Rattle.report_text.specs.Printed.{line, cell}
use Rattle.sim_run.proofs.Runs.{begins, goes_on, ends, vector_fits}
use Rattle.sim_run.proofs.Tables.{zeros_fit, zeros_are}
use Rattle.sim_run.proofs.running.module_run.Goals as goal

pub new-requires-clause-start : goal.new-requires-clause-start
new-requires-clause-start c =
    let m = module_seen c.args.design.now in
    let zeros_of = c.deref.ensures.value ∙ (c.in_ok-start.ensures.items_if_clones_equal (λ y e. e) ∙ ap (λ ps. replicate (length ps) 0) c.registers.ensures) in
    subst (FitsPins (registers m)) (sym zeros_of) (zeros_fit (registers m))

pub loop-at-init : goal.loop-at-init
loop-at-init c =
    let m = module_seen c.args.design.now in
    let zeros_of = c.deref.ensures.value ∙ (c.in_ok-start.ensures.items_if_clones_equal (λ y e. e) ∙ ap (λ ps. replicate (length ps) 0) c.registers.ensures) in
    record {
      runs = begins m c.args.table.now c.in_ok-sim.sim c.push_names.new.text.items c.in_ok-sim.ensures.simulates (c.in_ok-sim.ensures.start ∙ (zeros_of ∙ zeros_are (registers m)))
          (c.in_ok-push_names.ensures ∙ (ap (λ t. t ++ line (map (λ p. p.name) c.outputs-2.result.now)) c.new-text.ensures.items ∙ ap (λ ps. line (map (λ p. p.name) ps)) c.outputs-2.ensures));
      vector = λ k l. c.width.ensures k l ∙ sym c.in_ok-pins.ensures.len;
      room = c.in_ok-outs.ensures.len ∙ ap length c.outputs.ensures;
    }

pub row_into-requires-clause-room : goal.row_into-requires-clause-room
row_into-requires-clause-room c = c.deref_mut.ensures.len ∙ sym (c.loop-at.invariant.vector c.loop-at.at (omega (arith, c.loop-at-test.true, c.rows-at-end.ensures)))

pub step-requires-clause-pins : goal.step-requires-clause-pins
step-requires-clause-pins c =
    let m = module_seen c.args.design.now in
    let vector = c.deref-in-loop-at.ensures.value ∙ (with_items_is c.loop-at.pins c.row_into.new.into (c.row_into.auto.into ∙ c.deref_mut.ensures.len) ∙ c.row_into.ensures) in
    let fits = subst (FitsPins (inputs m)) (sym vector) (vector_fits m c.args.table.now c.loop-at.at c.requires.fit (omega (arith, c.loop-at-test.true, c.rows-at-end.ensures))) in
    fits_length (inputs m) c.deref-in-loop-at.result.now fits ∙ sym c.loop-at.invariant.runs.is_sim.takes

pub step-requires-clause-outs : goal.step-requires-clause-outs
step-requires-clause-outs c = omega (arith, c.deref_mut-in-loop-at.ensures.len, c.loop-at.invariant.room, c.loop-at.invariant.runs.is_sim.gives)

pub loop-at-preserved : goal.loop-at-preserved
loop-at-preserved c =
    let m = module_seen c.args.design.now in
    let vector = c.deref-in-loop-at.ensures.value ∙ (with_items_is c.loop-at.pins c.row_into.new.into (c.row_into.auto.into ∙ c.deref_mut.ensures.len) ∙ c.row_into.ensures) in
    record {
      runs = goes_on m c.args.table.now c.loop-at.at c.loop-at.sim c.step.new.self c.deref-in-loop-at.result.now c.step.new.outs c.loop-at.text.items c.push.new.text.items c.requires.fit
          (omega (arith, c.loop-at-test.true, c.rows-at-end.ensures)) vector c.loop-at.invariant.runs c.step.ensures.edge
          (c.in_ok-push.ensures ∙ ap (λ xs. c.loop-at.text.items ++ line (map cell xs)) (c.deref-in-loop-at-2.ensures.value ∙ with_items_is c.loop-at.outs c.step.new.outs (c.step.auto.outs ∙ c.deref_mut-in-loop-at.ensures.len)));
      vector = c.loop-at.invariant.vector;
      room = c.loop-at.invariant.room;
    }

pub returns : goal.returns
returns c = ends (module_seen c.args.design.now) c.args.table.now c.loop-at.at c.loop-at.sim c.loop-at.text.items (omega (arith, c.loop-at-test.false, c.rows-at-end.ensures)) c.loop-at.invariant.runs
