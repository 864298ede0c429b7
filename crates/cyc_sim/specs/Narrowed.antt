-- Programs whose values have at most 64 bits.
use Rattle.std.specs.Prelude.{◌≡◌, ℕ, ◌+◌, List, ◌++◌, length}
use Rattle.cyc_sim.specs.Operations.{values_after, values_in}
use Rattle.sim_lanes.specs.Narrow.{narrow_after}
use Rattle.sim_lanes.specs.Runs.{AreRuns}
use Rattle.cyc_sim.specs.declared.narrow_program.NarrowProgram.{NarrowProgram}
use Rattle.cyc_sim.specs.declared.program.Program.{Program}

-- from the same pins and contents a narrow program gives the same outputs and the same next contents
pub record Narrows (p : Program) (q : NarrowProgram) : Type 0 where
  pub inputs : q.inputs ≡ p.inputs
  pub outputs : length q.outputs.items ≡ length p.outputs.items
  pub registers : length q.registers.items ≡ length p.registers.items
  pub runs : AreRuns q.operations.items q.runs.items
  pub outs : (base : List ℕ) → length base ≡ p.inputs + length p.registers.items
      → values_in (narrow_after q.operations.items (base ++ q.constants.items)) q.outputs.items ≡ values_in (values_after p.operations.items base) p.outputs.items
  pub nexts : (base : List ℕ) → length base ≡ p.inputs + length p.registers.items
      → values_in (narrow_after q.operations.items (base ++ q.constants.items)) q.registers.items ≡ values_in (values_after p.operations.items base) p.registers.items
