-- What a simulation does at an edge of the clock.
use Rattle.std.specs.Prelude.{◌≡◌, ℕ, ◌+◌, List, ◌++◌, length, take, drop}
use Rattle.v_design.specs.Expr.{Values}
use Rattle.v_design.specs.Design.{Module, inputs, outputs, registers}
use Rattle.v_design.specs.Run.{Edge, values_at}
use Rattle.v_design.specs.Fits.{FitsPins}
use Rattle.cyc_sim.specs.Operations.{values_after, values_in}
use Rattle.cyc_sim.specs.declared.program.Program.{Program}
use Rattle.sim_lanes.specs.Narrow.{narrow_after}
use Rattle.cyc_sim.specs.Narrow.{IsNarrowModule}
use Rattle.sim_lanes.specs.Runs.{AreRuns}
use Rattle.sim_lanes.specs.Schedules.{IsSchedule}
use Rattle.cyc_sim.specs.declared.narrow_program.NarrowProgram.{NarrowProgram}
use Rattle.cyc_sim.specs.declared.narrow_sim.NarrowSim.{NarrowSim}
use Rattle.cyc_sim.specs.declared.sim.WideSim.{WideSim}
use Rattle.cyc_sim.specs.declared.sim.Engine.{Engine}
use Rattle.cyc_sim.specs.declared.sim.Engine.TheVariants.{Wide, Narrow}
use Rattle.cyc_sim.specs.declared.sim.Sim.{Sim}

-- the outputs that a program gives for pins and contents
abbrev pub outputs_of : Program → List ℕ → List ℕ → List ℕ
outputs_of p pins contents = values_in (values_after p.operations.items (pins ++ contents)) p.outputs.items

-- the contents that the registers move to
abbrev pub next_of : Program → List ℕ → List ℕ → List ℕ
next_of p pins contents = values_in (values_after p.operations.items (pins ++ contents)) p.registers.items

-- At an edge from these contents and for these pins a module gives these outputs, and its registers move to these
-- numbers, which are within their widths.
pub record StepsTo (m : Module) (contents : Values) (pins outs moved : List ℕ) : Type 0 where
  pub after : Values
  pub edge : Edge m contents pins outs after
  pub kept : values_at after (registers m) ≡ moved
  pub fits : FitsPins (registers m) moved

-- a program is of a module: it gives what the module gives at an edge, whatever the pins and the contents are
pub record IsProgramOf (m : Module) (p : Program) : Type 0 where
  pub takes : p.inputs ≡ length (inputs m)
  pub gives : length p.outputs.items ≡ length (outputs m)
  pub keeps : length p.registers.items ≡ length (registers m)
  pub edges : (pins numbers : List ℕ) (contents : Values) → FitsPins (inputs m) pins → FitsPins (registers m) numbers → values_at contents (registers m) ≡ numbers
      → StepsTo m contents pins (outputs_of p pins numbers) (next_of p pins numbers)

-- the values of all places of a narrow program, for pins and contents
abbrev pub narrow_values : NarrowProgram → List ℕ → List ℕ → List ℕ
narrow_values p pins contents = narrow_after p.operations.items (pins ++ (contents ++ p.constants.items))

-- a narrow program is of a module, whose pins and contents have at most 64 bits
pub record IsNarrowProgramOf (m : Module) (p : NarrowProgram) : Type 0 where
  pub takes : p.inputs ≡ length (inputs m)
  pub gives : length p.outputs.items ≡ length (outputs m)
  pub keeps : length p.registers.items ≡ length (registers m)
  pub edges : (pins numbers : List ℕ) (contents : Values) → FitsPins (inputs m) pins → FitsPins (registers m) numbers → values_at contents (registers m) ≡ numbers
      → StepsTo m contents pins (values_in (narrow_values p pins numbers) p.outputs.items) (values_in (narrow_values p pins numbers) p.registers.items)
  pub narrow : IsNarrowModule m
  pub runs : AreRuns p.operations.items p.runs.items

-- the contents of a simulation's registers, in order of declaration, by each of the two engines
abbrev pub held_wide : WideSim → List ℕ
held_wide s = take (length s.program.registers.items) (drop s.program.inputs s.values.items)

abbrev pub held_narrow : NarrowSim → List ℕ
held_narrow s = take (length s.program.registers.items) (drop s.program.inputs s.values.items)

-- the values of the places of its constants
abbrev pub constants_in : NarrowSim → List ℕ
constants_in s = take (length s.program.constants.items) (drop (s.program.inputs + length s.program.registers.items) s.values.items)

abbrev pub held_in : Engine → List ℕ
held_in (Wide s) = held_wide s
held_in (Narrow s) = held_narrow s

abbrev pub inputs_in : Engine → ℕ
inputs_in (Wide s) = s.program.inputs
inputs_in (Narrow s) = s.program.inputs

abbrev pub outputs_in : Engine → ℕ
outputs_in (Wide s) = length s.program.outputs.items
outputs_in (Narrow s) = length s.program.outputs.items

-- how many pins a step of a simulation takes, and how many outputs it gives
abbrev pub input_count : Sim → ℕ
input_count s = inputs_in s.engine

abbrev pub output_count : Sim → ℕ
output_count s = outputs_in s.engine

unfoldable pub held : Sim → List ℕ
held s = held_in s.engine

-- a simulation is of a module, over values of at most 128 bits
pub record IsWideOf (m : Module) (s : WideSim) : Type 0 where
  pub takes : s.program.inputs ≡ length (inputs m)
  pub gives : length s.program.outputs.items ≡ length (outputs m)
  pub program : IsProgramOf m s.program
  pub fits : FitsPins (registers m) (held_wide s)

-- a simulation is of a module whose values have at most 64 bits
pub record IsNarrowOf (m : Module) (s : NarrowSim) : Type 0 where
  pub takes : s.program.inputs ≡ length (inputs m)
  pub gives : length s.program.outputs.items ≡ length (outputs m)
  pub program : IsNarrowProgramOf m s.program
  pub constants : constants_in s ≡ s.program.constants.items
  pub schedule : IsSchedule s.schedule s.program.limit s.program.operations.items s.values.items
  pub fits : FitsPins (registers m) (held_narrow s)

abbrev pub IsEngineOf : Module → Engine → Type 0
IsEngineOf m (Wide s) = IsWideOf m s
IsEngineOf m (Narrow s) = IsNarrowOf m s

-- a simulation is of a module
pub record IsSimOf (m : Module) (s : Sim) : Type 0 where
  pub takes : input_count s ≡ length (inputs m)
  pub gives : output_count s ≡ length (outputs m)
  pub engine : IsEngineOf m s.engine
