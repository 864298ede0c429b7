-- The dump of a module's run (this project's layout).
use Rattle.std.specs.Prelude.{◌≡◌, ℕ, Ok, List, [], ◌∷◌, ◌++◌, length}
use Rattle.rb_base.specs.declared.ports.Pin.{Pin}
use Rattle.v_design.specs.Design.{Module, inputs, outputs}
use Rattle.v_design.specs.Run.{Run}
use Rattle.stim_csv.specs.PinTable.{table_of, records_of}
use Rattle.sim_run.specs.Simulated.{zeros, IsModule}
use Rattle.vcd_syntax.specs.Dump.{dump_text}

-- the pins of a run: the inputs without PCLK, and then the outputs
abbrev pub run_pins : Module → List Pin
run_pins m = inputs m ++ outputs m

-- the values of the pins at each edge: a vector, and the outputs at it
abbrev pub rows_of : (vectors results : List (List ℕ)) → List (List ℕ)
rows_of (x ∷ xs) (o ∷ os) = (x ++ o) ∷ rows_of xs os
rows_of _ _ = []

-- the text is the dump of a module's run from zeros over these vectors
pub record IsDump (m : Module) (vectors : List (List ℕ)) (text : List ℕ) : Type 0 where
  pub results : List (List ℕ)
  pub run : Run m zeros vectors results
  pub dumped : text ≡ dump_text m.name (run_pins m) (rows_of vectors results)

-- it is that of the module that the first bytes are, over the table that the second ones are
pub record IsWave (verilog stimulus text : List ℕ) : Type 0 where
  pub module_ : Module
  pub vectors : List (List ℕ)
  pub is_module : IsModule verilog module_
  pub table : table_of (inputs module_) (length (outputs module_)) (records_of stimulus) ≡ Ok vectors
  pub dump : IsDump module_ vectors text
