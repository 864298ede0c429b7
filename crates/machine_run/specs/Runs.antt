-- What the machine of a block makes of the bytes of a table.
use Rattle.std.specs.Prelude.{◌≡◌, ℕ, Result, Ok, Err, List, length, ⊤}
use Rattle.rb_base.specs.declared.ports.Pin.{Pin}
use Rattle.v_design.specs.Design.{outputs_among}
use Rattle.rb_model.specs.declared.block.Block.{Block}
use Rattle.rb_model.specs.Kept.{Map}
use Rattle.rb_model.specs.Ports.{ports, input_pins}
use Rattle.rb_model.specs.Protocol.{KeepsProtocol}
use Rattle.rb_model.specs.Run.{buses, MachineRun}
use Rattle.stim_csv.specs.Buses.{IsFirstBreak}
use Rattle.stim_csv.specs.PinTable.{table_of, records_of}
use Rattle.stim_csv.specs.declared.error.StimError.{StimError}
use Rattle.report_text.specs.Printed.{printed_run}
use Rattle.report_text.specs.Problems.{problem_text}
use Rattle.machine_run.specs.declared.error.RunError.{RunError}
use Rattle.machine_run.specs.declared.error.RunError.TheVariants as error

-- every kept value is 0
abbrev pub zeros : Map
zeros = λ k. 0

-- the block's output ports
abbrev pub output_pins : Block → List Pin
output_pins b = outputs_among (ports b)

-- the vectors of the table that the bytes are, for the block's inputs without the clock, or its first problem
abbrev pub table_for : Block → List ℕ → Result (List (List ℕ)) StimError
table_for b stimulus = table_of (input_pins b) (length (output_pins b)) (records_of stimulus)

-- the text is the run of the block's machine from zeros over the table, whose vectors keep the protocol
pub record IsRunOf (b : Block) (stimulus text : List ℕ) : Type 0 where
  pub vectors : List (List ℕ)
  pub table : table_for b stimulus ≡ Ok vectors
  pub kept : KeepsProtocol b.waits (buses b vectors)
  pub results : List (List ℕ)
  pub run : MachineRun b zeros vectors results
  pub printed : text ≡ printed_run (output_pins b) results

-- the text tells the first problem of the table
pub record IsProblem (b : Block) (stimulus text : List ℕ) : Type 0 where
  pub problem : StimError
  pub table : table_for b stimulus ≡ Err problem
  pub told : text ≡ problem_text (input_pins b) problem

-- the row of this number is the first of the table that breaks the protocol
pub record IsBreak (b : Block) (stimulus : List ℕ) (row : ℕ) : Type 0 where
  pub vectors : List (List ℕ)
  pub table : table_for b stimulus ≡ Ok vectors
  pub first : IsFirstBreak b.waits (buses b vectors) row

-- the bytes are a table for the block, whose vectors keep the protocol
pub record IsFitFor (b : Block) (stimulus : List ℕ) : Type 0 where
  pub vectors : List (List ℕ)
  pub table : table_for b stimulus ≡ Ok vectors
  pub kept : KeepsProtocol b.waits (buses b vectors)

-- why there is no run
abbrev pub Prevents : (b : Block) (stimulus : List ℕ) → RunError → Type 0
Prevents b stimulus (error.Stimulus text) = IsProblem b stimulus text.items
Prevents b stimulus (error.Protocol row) = IsBreak b stimulus row
Prevents b stimulus error.NoMemory = ⊤
