use Rattle.std.proofs.Common.{◌++◌, ap, sym, ◌∙◌, subst, length, map, arith}
use Rattle.std.proofs.lemmas.List.{with_items_is}
use Rattle.v_design.specs.Fits.{FitsPins}
use Rattle.rb_model.specs.Ports.{input_pins}
use Rattle.report_text.specs.Printed.{line, cell}
use Rattle.machine_run.specs.Runs.{output_pins}
use Rattle.machine_run.proofs.Runs.{begins, goes_on, ends}
use Rattle.machine_run.proofs.Watching.{vector_fits}
use Rattle.machine_run.proofs.running.machine_text.Goals as goal

pub loop-at-init : goal.loop-at-init
loop-at-init c = record {
  runs = begins c.args.block.now c.args.table.now c.in_ok-machine.machine c.push_names.new.text.items c.in_ok-machine.ensures.ready c.in_ok-machine.ensures.block c.in_ok-machine.ensures.zeros
      (c.in_ok-push_names.ensures ∙ (ap (λ t. t ++ line (map (λ p. p.name) c.args.outputs.now)) c.new-text.ensures.items ∙ ap (λ ps. line (map (λ p. p.name) ps)) c.requires.outputs));
  vector = λ k l. c.width.ensures k l ∙ sym c.in_ok-pins.ensures.len;
  room = c.in_ok-outs.ensures.len ∙ ap length c.requires.outputs;
}

pub row_into-requires-clause-room : goal.row_into-requires-clause-room
row_into-requires-clause-room c = c.deref_mut.ensures.len ∙ sym (c.loop-at.invariant.vector c.loop-at.at (omega (arith, c.loop-at-test.true, c.rows-at-end.ensures)))

pub step-requires-clause-pins : goal.step-requires-clause-pins
step-requires-clause-pins c =
    let vector = c.deref-in-loop-at.ensures.value ∙ (with_items_is c.loop-at.pins c.row_into.new.into (c.row_into.auto.into ∙ c.deref_mut.ensures.len) ∙ c.row_into.ensures) in
    let fits = vector_fits (input_pins c.args.block.now) c.args.table.now c.loop-at.at c.requires.fit (omega (arith, c.loop-at-test.true, c.rows-at-end.ensures)) in
    subst (λ z. FitsPins (input_pins z) c.deref-in-loop-at.result.now) (sym c.loop-at.invariant.runs.of) (subst (FitsPins (input_pins c.args.block.now)) (sym vector) fits)

pub step-requires-clause-outs : goal.step-requires-clause-outs
step-requires-clause-outs c = c.deref_mut-in-loop-at.ensures.len ∙ (c.loop-at.invariant.room ∙ sym (ap (λ z. length (output_pins z)) c.loop-at.invariant.runs.of))

pub loop-at-preserved : goal.loop-at-preserved
loop-at-preserved c =
    let vector = c.deref-in-loop-at.ensures.value ∙ (with_items_is c.loop-at.pins c.row_into.new.into (c.row_into.auto.into ∙ c.deref_mut.ensures.len) ∙ c.row_into.ensures) in
    let shown = with_items_is c.loop-at.outs c.step.new.outs (c.step.auto.outs ∙ c.deref_mut-in-loop-at.ensures.len) in
    record {
      runs = goes_on c.args.block.now c.args.table.now c.loop-at.at c.loop-at.machine c.step.new.self c.deref-in-loop-at.result.now c.step.new.outs c.loop-at.text.items c.push.new.text.items
          (omega (arith, c.loop-at-test.true, c.rows-at-end.ensures)) vector c.loop-at.invariant.runs c.step.ensures.edge c.step.ensures.ready (ap (λ r. r.now) c.step.ensures.block)
          (c.in_ok-push.ensures ∙ ap (λ xs. c.loop-at.text.items ++ line (map cell xs)) (c.deref-in-loop-at-2.ensures.value ∙ shown));
      vector = c.loop-at.invariant.vector;
      room = c.loop-at.invariant.room;
    }

pub returns : goal.returns
returns c = ends c.args.block.now c.args.table.now c.loop-at.at c.loop-at.machine c.loop-at.text.items (omega (arith, c.loop-at-test.false, c.rows-at-end.ensures)) c.loop-at.invariant.runs
