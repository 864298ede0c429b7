-- A run that is ready to be written.
use Rattle.std.specs.Prelude.{◌≡◌, ℕ, ◌≤◌, List, length}
use Rattle.v_design.specs.Design.{inputs, registers}
use Rattle.v_design.specs.Run.{values_at}
use Rattle.v_design.specs.Fits.{AllFit}
use Rattle.v_design.specs.Seen.{module_seen}
use Rattle.cyc_sim.specs.Accepted.{IsAccepted}
use Rattle.cyc_sim.specs.Simulation.{IsSimOf, held}
use Rattle.sim_run.specs.Simulated.{zeros, IsReady}
use Rattle.wave_text.specs.declared.wave_run.WaveRun.{WaveRun}
use Rattle.wave_text.specs.Dumped.{run_pins, IsDump}

-- a simulation at zeros of a module, a table for it, its pins, and room for a value of each at two edges
pub record IsAtZeros (run : WaveRun) : Type 0 where
  pub accepted : IsAccepted (module_seen run.design)
  pub fit : AllFit (inputs (module_seen run.design)) run.table
  pub few : length run.table ≤ 1000000
  pub pins : run.pins.items ≡ run_pins (module_seen run.design)
  pub is_sim : IsSimOf (module_seen run.design) run.sim
  pub zeroed : held run.sim ≡ values_at zeros (registers (module_seen run.design))
  pub before : length run.before.items ≡ length run.pins.items
  pub now : length run.now.items ≡ length run.pins.items

-- the run of the module that the first bytes are, over the table that the second ones are
abbrev pub IsRunOf : (verilog stimulus : List ℕ) → WaveRun → Type 0
IsRunOf verilog stimulus run = IsReady verilog stimulus (module_seen run.design) run.table

-- the text is the dump of the run
abbrev pub IsDumpOf : WaveRun → List ℕ → Type 0
IsDumpOf run text = IsDump (module_seen run.design) run.table text
