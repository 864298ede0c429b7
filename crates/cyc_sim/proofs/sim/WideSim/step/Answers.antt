use Rattle.std.proofs.Common.{◌≡◌, ◌+◌, length, take, drop, ap, sym, subst, ◌∙◌, arith}
use Rattle.std.specs.Vec.{with_items}
use Rattle.std.proofs.lemmas.List.{length-map, with_items_is}
use Rattle.v_design.specs.Design.{registers}
use Rattle.v_design.specs.Fits.{FitsPins}
use Rattle.cyc_sim.specs.Operations.{values_in}
use Rattle.cyc_sim.specs.Simulation.{held_wide}
use Rattle.cyc_sim.proofs.Stepping.{settled_is, read_is, moved_is, steps_as}
use Rattle.cyc_sim.proofs.sim.WideSim.step.Goals as goal

pub returns : goal.returns
returns c = record {
  edge = λ m sim fits contents kept.
      let s = c.args.self.now in
      let p = c.args.self.now.program in
      let v1 = with_items s.values c.put.new.values in
      let v2 = with_items v1 c.settle.new.values in
      let long1 : length c.put.new.values ≡ s.values.len = omega (arith, ap length c.deref_mut.ensures.value, s.values.ok.0, c.put.auto.values) in
      let is1 = c.deref_mut-2.ensures.value ∙ with_items_is s.values c.put.new.values long1 in
      let long2 : length c.settle.new.values ≡ s.values.len = omega (arith, ap length is1, long1, c.settle.auto.values) in
      let is2 = with_items_is v1 c.settle.new.values long2 in
      let long3 : length c.put-2.new.values ≡ s.values.len = omega (arith, ap length (c.deref_mut-4.ensures.value ∙ is2), long2, c.put-2.auto.values) in
      let long4 : length c.read-2.new.into ≡ s.moved.len = omega (arith, ap length c.deref_mut-3.ensures.value, s.moved.ok.0, c.read-2.auto.into) in
      let all = settled_is p.operations.items _ s.values.items _ _ _ _ c.args.pins.now p.inputs (length p.registers.items) _ c.deref_mut.ensures.value c.requires.pins c.put.ensures is1
      c.deref.ensures.value (ap (λ n. p.inputs + n) (omega (arith, c.len.ensures, p.registers.ok.0))) c.settle.ensures in
      let outs = read_is _ _ p.outputs.items _ _ (c.deref-2.ensures.value ∙ is2) c.deref-3.ensures.value c.read.ensures ∙ ap (λ vs. values_in vs p.outputs.items) all in
      let moved = read_is _ _ p.registers.items _ _ (c.deref-4.ensures.value ∙ is2) c.deref-5.ensures.value c.read-2.ensures in
      let long = ap length moved ∙ length-map p.registers.items _ in
      let kept_now = ap (λ vs. take (length p.registers.items) (drop p.inputs vs)) (with_items_is v2 c.put-2.new.values long3)
      ∙ (moved_is _ _ _ _ _ _ p.inputs (length p.registers.items) (c.deref_mut-4.ensures.value ∙ is2) (c.deref-6.ensures.value ∙ with_items_is s.moved c.read-2.new.into long4) long (omega (arith, long2, s.sized, p.sized, s.values.ok.0)) c.put-2.ensures
      ∙ (moved ∙ ap (λ vs. values_in vs p.registers.items) all)) in
      let steps = sim.program.edges c.args.pins.now (held_wide s) contents fits sim.fits kept in (
        steps_as m contents c.args.pins.now _ _ _ _ outs kept_now steps,
        record { takes = sim.takes; gives = sim.gives; program = record { takes = sim.program.takes; gives = sim.program.gives; keeps = sim.program.keeps; edges = sim.program.edges }; fits = subst (FitsPins (registers m)) (sym kept_now) steps.fits },
      );
}
