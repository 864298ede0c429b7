use Rattle.std.proofs.Common.{◌≡◌, ◌+◌, ◌≤◌, ◌++◌, length, take, drop, refl, ap, sym, subst, ◌∙◌, arith}
use Rattle.std.specs.Vec.{with_items}
use Rattle.std.proofs.lemmas.List.{length-map, with_items_is}
use Rattle.v_design.specs.Design.{inputs, registers}
use Rattle.v_design.specs.Fits.{FitsPins}
use Rattle.sim_lanes.specs.Narrow.{narrow_after}
use Rattle.sim_lanes.proofs.Running.{are_runs_as}
use Rattle.cyc_sim.specs.Operations.{values_in}
use Rattle.cyc_sim.specs.Narrow.{low_all}
use Rattle.cyc_sim.specs.Simulation.{held_narrow}
use Rattle.cyc_sim.proofs.Facts.{fits_length}
use Rattle.cyc_sim.proofs.Lows.{lows_same, written_all}
use Rattle.cyc_sim.proofs.NarrowStepping.{behind_moved, constants_stay, narrow_settled, schedule_as}
use Rattle.cyc_sim.proofs.Stepping.{read_is, moved_is, steps_as}
use Rattle.cyc_sim.proofs.narrow_sim.NarrowSim.step.Goals as goal

pub returns : goal.returns
returns c = record {
  edge = λ m sim fits contents kept.
      let s = c.args.self.now in
      let p = c.args.self.now.program in
      let count = length p.registers.items in
      let more = length p.constants.items in
      let lows = low_all c.args.pins.now in
      let v1 = with_items s.values c.take.new.values in
      let v2 = with_items v1 c.settle.new.values in
      let long0 : length c.put_low.new.values ≡ s.taken.len = omega (arith, ap length c.deref_mut.ensures.value, s.taken.ok.0, c.put_low.auto.values) in
      let lows_long : length lows ≡ p.inputs = length-map c.args.pins.now _ ∙ c.requires.pins in
      let taken = c.deref.ensures.value
      ∙ (with_items_is s.taken c.put_low.new.values long0 ∙ (c.put_low.ensures ∙ written_all c.deref_mut.result.now lows (omega (arith, lows_long, ap length c.deref_mut.ensures.value, s.taken_sized)))) in
      let long1 : length c.take.new.values ≡ s.values.len = omega (arith, ap length c.deref_mut-2.ensures.value, s.values.ok.0, c.take.auto.values) in
      let is1 = c.deref_mut-3.ensures.value ∙ with_items_is s.values c.take.new.values long1 in
      let long2 : length c.settle.new.values ≡ s.values.len = omega (arith, ap length is1, long1, c.settle.auto.values) in
      let is2 = with_items_is v1 c.settle.new.values long2 in
      let before = c.deref_mut-5.ensures.value ∙ is2 in
      let long3 : length c.put.new.values ≡ s.values.len = omega (arith, ap length before, long2, c.put.auto.values) in
      let is3 = with_items_is v2 c.put.new.values long3 in
      let long4 : length c.read_narrow.new.into ≡ s.moved.len = omega (arith, ap length c.deref_mut-4.ensures.value, s.moved.ok.0, c.read_narrow.auto.into) in
      let room : p.inputs ≤ length c.settle.new.values = omega (arith, long2, s.sized, p.sized, p.front, s.values.ok.0) in
      let held_long : length (held_narrow s) ≡ count = fits_length (registers m) (held_narrow s) sim.fits ∙ sym sim.program.keeps in
      let put_pins = c.take.ensures.values ∙ ap (λ ns. take 0 c.deref_mut-2.result.now ++ (ns ++ drop (0 + length ns) c.deref_mut-2.result.now)) taken in
      let schedule1 = c.take.ensures.schedule p.limit p.operations.items (omega (arith, ap length taken, lows_long, p.front)) (schedule_as s.schedule p.limit _ _ _ _ refl c.deref_mut-2.ensures.value sim.schedule) in
      let runs = are_runs_as _ _ _ _ c.deref-3.ensures.value c.deref-2.ensures.value sim.program.runs in
      let schedule2 = schedule_as c.take.new.self p.limit _ _ _ _ c.deref-3.ensures.value is1 schedule1 in
      let settled = narrow_settled p.operations.items _ s.values.items _ _ _ _ lows p.constants.items p.inputs count more _ c.deref_mut-2.ensures.value lows_long put_pins is1 c.deref-3.ensures.value p.front sim.constants (c.settle.ensures.values runs schedule2) in
      let all = settled ∙ ap (λ xs. narrow_after p.operations.items (xs ++ (held_narrow s ++ p.constants.items))) (lows_same (inputs m) c.args.pins.now sim.program.narrow.pins fits) in
      let outs = read_is _ _ p.outputs.items _ _ (c.deref-4.ensures.value ∙ is2) c.deref-5.ensures.value c.read_wide.ensures ∙ ap (λ vs. values_in vs p.outputs.items) all in
      let moved = read_is _ _ p.registers.items _ _ (c.deref-6.ensures.value ∙ is2) c.deref-7.ensures.value c.read_narrow.ensures in
      let long = ap length moved ∙ length-map p.registers.items _ in
      let put = c.deref-8.ensures.value ∙ with_items_is s.moved c.read_narrow.new.into long4 in
      let schedule3 = schedule_as c.settle.new.self p.limit _ _ _ _ (sym c.deref-3.ensures.value) before (c.settle.ensures.schedule runs schedule2) in
      let schedule4 = c.put.ensures.schedule p.limit p.operations.items (omega (arith, ap length put, long, p.front)) schedule3 in
      let steps = sim.program.edges c.args.pins.now (held_narrow s) contents fits sim.fits kept in
      let kept_now = ap (λ vs. take count (drop p.inputs vs)) is3 ∙ (moved_is _ _ _ _ _ _ p.inputs count before put long room c.put.ensures.values ∙ (moved ∙ ap (λ vs. values_in vs p.registers.items) all)) in
      let constants_now = ap (λ vs. take more (drop (p.inputs + count) vs)) is3
      ∙ (ap (take more) (behind_moved _ _ _ p.inputs count (ap length put ∙ long) (omega (arith, room, ap length before)) c.put.ensures.values)
      ∙ constants_stay p.operations.items _ c.args.pins.now (held_narrow s) p.constants.items p.inputs count more c.requires.pins held_long refl (before ∙ all)) in (
        steps_as m contents c.args.pins.now _ _ _ _ outs kept_now steps,
        record {
          takes = sim.takes;
          gives = sim.gives;
          program = record { takes = sim.program.takes; gives = sim.program.gives; keeps = sim.program.keeps; edges = sim.program.edges; narrow = sim.program.narrow; runs = sim.program.runs };
          constants = constants_now;
          schedule = schedule_as c.put.new.self p.limit _ _ _ _ refl is3 schedule4;
          fits = subst (FitsPins (registers m)) (sym kept_now) steps.fits;
        },
      );
}
