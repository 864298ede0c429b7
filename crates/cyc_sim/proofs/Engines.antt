-- The two engines of a simulation.
use Rattle.std.proofs.Common.{◌≡◌, ℕ, ◌+◌, List, ◌++◌, length, ap, sym, subst, ◌∙◌, length-append, append_assoc, arith}
use Rattle.v_design.specs.Expr.{Values}
use Rattle.v_design.specs.Design.{Module, inputs, outputs, registers}
use Rattle.v_design.specs.Run.{values_at}
use Rattle.v_design.specs.Fits.{FitsPins}
use Rattle.cyc_sim.specs.declared.program.Program.{Program}
use Rattle.cyc_sim.specs.declared.narrow_program.NarrowProgram.{NarrowProgram}
use Rattle.cyc_sim.specs.declared.narrow_sim.NarrowSim.{NarrowSim}
use Rattle.cyc_sim.specs.declared.sim.WideSim.{WideSim}
use Rattle.cyc_sim.specs.declared.sim.Engine.{Engine}
use Rattle.cyc_sim.specs.declared.sim.Engine.TheVariants.{Wide, Narrow}
use Rattle.cyc_sim.specs.declared.sim.Sim.{Sim}
use Rattle.sim_lanes.specs.Narrow.{narrow_after}
use Rattle.sim_lanes.specs.Schedules.{IsSchedule}
use Rattle.cyc_sim.specs.Narrow.{AreNarrow, IsNarrowModule, low_all}
use Rattle.cyc_sim.specs.Narrowed.{Narrows}
use Rattle.cyc_sim.specs.Operations.{values_in}
use Rattle.cyc_sim.specs.Simulation.{IsEngineOf, IsNarrowOf, IsNarrowProgramOf, IsProgramOf, IsSimOf, IsWideOf, StepsTo, constants_in, held, held_in, held_narrow, held_wide, inputs_in, narrow_values, next_of, outputs_in, outputs_of}
use Rattle.cyc_sim.proofs.Stepping.{steps_as}
use Rattle.cyc_sim.proofs.Lows.{lows_same}
use Rattle.cyc_sim.proofs.Facts.{fits_length}

engine_takes : (m : Module) (e : Engine) → IsEngineOf m e → inputs_in e ≡ length (inputs m)
engine_takes m (Wide s) h = h.takes
engine_takes m (Narrow s) h = h.takes

engine_gives : (m : Module) (e : Engine) → IsEngineOf m e → outputs_in e ≡ length (outputs m)
engine_gives m (Wide s) h = h.gives
engine_gives m (Narrow s) h = h.gives

pub sim_of : (m : Module) (s : Sim) → IsEngineOf m s.engine → IsSimOf m s
sim_of m s h = record { takes = engine_takes m s.engine h; gives = engine_gives m s.engine h; engine = h }

-- a wide simulation of a module's program
pub wide_of_program : (m : Module) (p : Program) (s : WideSim) (start : List ℕ) → IsProgramOf m p → s.program ≡ p → held_wide s ≡ start → FitsPins (registers m) start → IsWideOf m s
wide_of_program m p s start h same is fits =
    let k : IsProgramOf m s.program = subst (IsProgramOf m) (sym same) h in
    record { takes = k.takes; gives = k.gives; program = k; fits = subst (FitsPins (registers m)) (sym is) fits }

-- a narrow one, and its contents
pub narrow_held : (m : Module) (s : NarrowSim) (start : List ℕ) → held_narrow s ≡ low_all start → AreNarrow (registers m) → FitsPins (registers m) start → held_narrow s ≡ start
narrow_held m s start is narrow fits = is ∙ lows_same (registers m) start narrow fits

pub start_length : (m : Module) (p : Program) (start : List ℕ) → IsProgramOf m p → FitsPins (registers m) start → length start ≡ length p.registers.items
start_length m p start h fits = fits_length (registers m) start fits ∙ sym h.keeps

pub narrow_start_length : (m : Module) (q : NarrowProgram) (start : List ℕ) → IsNarrowProgramOf m q → FitsPins (registers m) start → length start ≡ length q.registers.items
narrow_start_length m q start h fits = fits_length (registers m) start fits ∙ sym h.keeps

-- a narrow program that gives what a module's program gives
pub narrow_program_of : (m : Module) (p : Program) (q : NarrowProgram) → IsProgramOf m p → IsNarrowModule m → Narrows p q → IsNarrowProgramOf m q
narrow_program_of m p q h narrow n = record {
  takes = n.inputs ∙ h.takes;
  gives = n.outputs ∙ h.gives;
  keeps = n.registers ∙ h.keeps;
  edges = λ pins numbers contents fit fits kept.
      let long : length (pins ++ numbers) ≡ p.inputs + length p.registers.items = omega (arith, length-append pins numbers, fits_length (inputs m) pins fit, fits_length (registers m) numbers fits, h.takes, h.keeps) in
      let same : narrow_values q pins numbers ≡ narrow_after q.operations.items ((pins ++ numbers) ++ q.constants.items) = ap (narrow_after q.operations.items) (sym (append_assoc pins numbers q.constants.items)) in
      steps_as m contents pins (outputs_of p pins numbers) _ (next_of p pins numbers) _ (ap (λ vs. values_in vs q.outputs.items) same ∙ n.outs (pins ++ numbers) long) (ap (λ vs. values_in vs q.registers.items) same ∙ n.nexts (pins ++ numbers) long)
      (h.edges pins numbers contents fit fits kept);
  narrow = narrow;
  runs = n.runs;
}

pub narrow_of_program : (m : Module) (q : NarrowProgram) (s : NarrowSim) (start : List ℕ) → IsNarrowProgramOf m q → s.program ≡ q → held_narrow s ≡ low_all start → constants_in s ≡ q.constants.items
    → IsSchedule s.schedule s.program.limit s.program.operations.items s.values.items → FitsPins (registers m) start → IsNarrowOf m s
narrow_of_program m q s start h same is constants schedule fits =
    let k : IsNarrowProgramOf m s.program = subst (IsNarrowProgramOf m) (sym same) h in
    record { takes = k.takes; gives = k.gives; program = k; constants = constants ∙ ap (λ x. x.constants.items) (sym same); schedule = schedule; fits = subst (FitsPins (registers m)) (sym (narrow_held m s start is h.narrow.contents fits)) fits }

-- a step by either engine
pub wide_step : (m : Module) (old new : Sim) (a b : WideSim) (pins outs : List ℕ) (contents : Values) → old.engine ≡ Wide a → new.engine ≡ Wide b
    → (IsWideOf m a → FitsPins (inputs m) pins → (contents : Values) → values_at contents (registers m) ≡ held_wide a → StepsTo m contents pins outs (held_wide b) × IsWideOf m b)
    → IsSimOf m old → FitsPins (inputs m) pins → values_at contents (registers m) ≡ held old → StepsTo m contents pins outs (held new) × IsSimOf m new
unfolding held
wide_step m old new a b pins outs contents is is' edge h fits kept =
    let e : IsWideOf m a = subst (IsEngineOf m) is h.engine in
    let (s, n) = edge e fits contents (kept ∙ ap held_in is) in (
      subst (λ x. StepsTo m contents pins outs (held_in x)) (sym is') s,
      sim_of m new (subst (IsEngineOf m) (sym is') n),
    )

pub narrow_step : (m : Module) (old new : Sim) (a b : NarrowSim) (pins outs : List ℕ) (contents : Values) → old.engine ≡ Narrow a → new.engine ≡ Narrow b
    → (IsNarrowOf m a → FitsPins (inputs m) pins → (contents : Values) → values_at contents (registers m) ≡ held_narrow a → StepsTo m contents pins outs (held_narrow b) × IsNarrowOf m b)
    → IsSimOf m old → FitsPins (inputs m) pins → values_at contents (registers m) ≡ held old → StepsTo m contents pins outs (held new) × IsSimOf m new
unfolding held
narrow_step m old new a b pins outs contents is is' edge h fits kept =
    let e : IsNarrowOf m a = subst (IsEngineOf m) is h.engine in
    let (s, n) = edge e fits contents (kept ∙ ap held_in is) in (
      subst (λ x. StepsTo m contents pins outs (held_in x)) (sym is') s,
      sim_of m new (subst (IsEngineOf m) (sym is') n),
    )
