-- What the bytes of a module and of a table give.
use Rattle.std.specs.Prelude.{◌≡◌, ◌≤◌, ℕ, Ok, Err, List, length, ⊤}
use Rattle.v_design.specs.Expr.{Values}
use Rattle.v_design.specs.Tree.{Tree, IsTree}
use Rattle.v_design.specs.WellFormed.{IsWellFormed}
use Rattle.v_design.specs.Design.{Module, module_of, inputs, outputs}
use Rattle.v_design.specs.Run.{Run}
use Rattle.v_design.specs.Fits.{AllFit}
use Rattle.stim_csv.specs.PinTable.{table_of, records_of}
use Rattle.stim_csv.specs.declared.error.StimError.{StimError}
use Rattle.v_syntax.specs.Failing.{Fails}
use Rattle.v_reader.specs.Reading.{place_number}
use Rattle.report_text.specs.Printed.{printed_run}
use Rattle.report_text.specs.Problems.{problem_text}
use Rattle.sim_run.specs.declared.error.SimError.{SimError}
use Rattle.sim_run.specs.declared.error.SimError.TheVariants as error

-- every register contains 0
abbrev pub zeros : Values
zeros = λ name. 0

-- the text is the run of a module from zeros over these vectors
pub record IsRunText (m : Module) (vectors : List (List ℕ)) (text : List ℕ) : Type 0 where
  pub results : List (List ℕ)
  pub run : Run m zeros vectors results
  pub printed : text ≡ printed_run (outputs m) results

-- the bytes are a well-formed module
pub record IsModule (verilog : List ℕ) (m : Module) : Type 0 where
  pub tree : Tree
  pub is_tree : IsTree verilog tree
  pub well_formed : IsWellFormed tree
  pub is : m ≡ module_of tree

-- the first bytes are this module, and the second a table of these vectors, which fit its inputs
pub record IsReady (verilog stimulus : List ℕ) (m : Module) (vectors : List (List ℕ)) : Type 0 where
  pub is_module : IsModule verilog m
  pub table : table_of (inputs m) (length (outputs m)) (records_of stimulus) ≡ Ok vectors
  pub fit : AllFit (inputs m) vectors

-- the text is the run of the module that the first bytes are, over the table that the second ones are
pub record IsSimulated (verilog stimulus text : List ℕ) : Type 0 where
  pub module_ : Module
  pub vectors : List (List ℕ)
  pub is_module : IsModule verilog module_
  pub table : table_of (inputs module_) (length (outputs module_)) (records_of stimulus) ≡ Ok vectors
  pub run : IsRunText module_ vectors text

-- the text tells the first problem of the table
pub record IsProblem (verilog stimulus text : List ℕ) : Type 0 where
  pub module_ : Module
  pub problem : StimError
  pub is_module : IsModule verilog module_
  pub table : table_of (inputs module_) (length (outputs module_)) (records_of stimulus) ≡ Err problem
  pub told : text ≡ problem_text (inputs module_) problem

-- why there is no run
abbrev pub Prevents : (verilog stimulus : List ℕ) → SimError → Type 0
Prevents verilog stimulus (error.Verilog e) = Fails verilog e × (place_number e ≤ length verilog)
Prevents verilog stimulus (error.Stimulus text) = IsProblem verilog stimulus text.items
Prevents verilog stimulus error.NoMemory = ⊤

-- the first bytes are a well-formed module, and the second a table for it
pub record IsFitTable (verilog stimulus : List ℕ) : Type 0 where
  pub module_ : Module
  pub vectors : List (List ℕ)
  pub is_module : IsModule verilog module_
  pub table : table_of (inputs module_) (length (outputs module_)) (records_of stimulus) ≡ Ok vectors
