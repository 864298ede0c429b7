use Rattle.std.proofs.Common.{◌++◌, length, map, refl, ap, sym, subst, ◌∙◌, arith}
use Rattle.std.proofs.lemmas.List.{with_items_is}
use Rattle.v_design.specs.Fits.{AllFit, FitsPins}
use Rattle.rb_model.specs.Ports.{input_pins}
use Rattle.rb_model.specs.Run.{ClockEdge}
use Rattle.rb_machine.specs.Machines.{held_map}
use Rattle.drive_run.specs.Transcript.{told}
use Rattle.drive_run.specs.Playing.{output_count, tallied}
use Rattle.drive_run.proofs.Plays.{Plays, begins, ends, few, fits_there, goes_on, less, next_step}
use Rattle.drive_run.proofs.playing.play.Goals as goal

pub loop-machine-init : goal.loop-machine-init
loop-machine-init c = record {
  plays = subst (λ t. Plays c.args.block.now c.args.script.all c.args.script c.in_ok-machine.machine t (record { checks = 0; failed = 0 })) (sym c.new-text.ensures.items)
      (begins c.args.block.now c.args.script c.in_ok-machine.machine (record { checks = 0; failed = 0 }) c.in_ok-machine.ensures.ready c.in_ok-machine.ensures.block c.in_ok-machine.ensures.zeros c.requires.begun refl);
  pins = c.requires.pins;
  vector = c.in_ok-pins.ensures.len ∙ c.requires.inputs;
  room = c.in_ok-outs.ensures.len ∙ c.requires.outputs;
}

pub step-requires-clause-ready : goal.step-requires-clause-ready
step-requires-clause-ready c = c.loop-machine.invariant.plays.ready

pub step-requires-clause-pins : goal.step-requires-clause-pins
step-requires-clause-pins c =
    let p = c.loop-machine.invariant.plays in
    let b = c.args.block.now in
    let x = next_step c.loop-machine.script.left c.next-turn.new.self.left c.next-turn.result _ c.next-turn.new.pins c.next-turn.ensures.taken c.in_default.not-End in
    let fits = fits_there (FitsPins (input_pins b)) p.done c.next-turn.new.self.left x.step (subst (λ ss. AllFit (input_pins b) (map (λ s. s.vector) ss)) (p.whole ∙ ap (λ xs. p.done ++ xs) x.first) c.requires.fits) in
    let shown = c.deref.ensures.value ∙ with_items_is c.loop-machine.pins c.next-turn.new.pins (c.next-turn.auto.pins ∙ c.deref_mut.ensures.len) in
    subst (λ z. FitsPins (input_pins z) c.deref.result.now) (sym p.of) (subst (FitsPins (input_pins b)) (sym (shown ∙ x.shows)) fits)

pub step-requires-clause-outs : goal.step-requires-clause-outs
step-requires-clause-outs c = c.deref_mut-in-loop-machine.ensures.len ∙ (c.loop-machine.invariant.room ∙ sym (ap output_count c.loop-machine.invariant.plays.of))

pub tell-requires-clause-room : goal.tell-requires-clause-room
tell-requires-clause-room c =
    let p = c.loop-machine.invariant.plays in
    let x = next_step c.loop-machine.script.left c.next-turn.new.self.left c.next-turn.result _ c.next-turn.new.pins c.next-turn.ensures.taken c.in_default.not-End in
    let some = ap length x.first in
    let f = few c.args.block.now c.args.script.all c.loop-machine.script c.loop-machine.machine c.loop-machine.text.items c.loop-machine.tally p in
    omega (arith, some, f, c.requires.few)

pub tell-requires-clause-less : goal.tell-requires-clause-less
tell-requires-clause-less c = less c.args.block.now c.args.script.all c.loop-machine.script c.loop-machine.machine c.loop-machine.text.items c.loop-machine.tally c.loop-machine.invariant.plays

pub loop-machine-smaller : goal.loop-machine-smaller
loop-machine-smaller c =
    let x = next_step c.loop-machine.script.left c.next-turn.new.self.left c.next-turn.result _ c.next-turn.new.pins c.next-turn.ensures.taken c.in_default.not-End in
    let some = ap length x.first in
    omega (arith, some)

pub loop-machine-preserved : goal.loop-machine-preserved
loop-machine-preserved c =
    let p = c.loop-machine.invariant.plays in
    let b = c.args.block.now in
    let pins = c.deref.ensures.value ∙ with_items_is c.loop-machine.pins c.next-turn.new.pins (c.next-turn.auto.pins ∙ c.deref_mut.ensures.len) in
    let outs = c.deref-in-loop-machine.ensures.value ∙ with_items_is c.loop-machine.outs c.step.new.outs (c.step.auto.outs ∙ c.deref_mut-in-loop-machine.ensures.len) in
    let m = c.loop-machine.machine in
    let n = c.step.new.self in
    record {
      plays = goes_on b c.args.script.all c.loop-machine.script m c.loop-machine.text.items c.loop-machine.tally p
          c.next-turn.new.self c.next-turn.result _ c.next-turn.new.pins c.step.new.outs n c.tell.new.text.items c.tell.new.tally
          c.next-turn.ensures c.in_default.not-End (subst (λ v. ClockEdge m.block.now (held_map m) v c.step.new.outs (held_map n)) pins c.step.ensures.edge) c.step.ensures.ready (ap (λ r. r.now) c.step.ensures.block)
          (λ s among turn. c.in_ok-tell.ensures.told s among turn ∙ ap (λ o. c.loop-machine.text.items ++ told s.ask o) outs)
          (λ s turn. c.in_ok-tell.ensures.tallied s turn ∙ ap (λ o. tallied s.ask o c.loop-machine.tally) outs);
      pins = c.next-turn.ensures.pins ∙ c.loop-machine.invariant.pins;
      vector = c.loop-machine.invariant.vector;
      room = c.loop-machine.invariant.room;
    }

pub returns : goal.returns
returns c =
    ends c.args.block.now c.args.script.all c.loop-machine.script c.loop-machine.machine c.loop-machine.text.items c.loop-machine.tally c.loop-machine.invariant.plays
    c.next-turn.new.self c.next-turn.result _ c.next-turn.new.pins _ c.next-turn.ensures c.in-End.is c.in_ok-push_counts.ensures
