-- What an answer to `vcd` promises, and one to `pins`.
use Rattle.std.specs.Prelude.{ℕ, List, [], Option}
use Rattle.rb_base.specs.declared.ports.Pin.{Pin}
use Rattle.rb_edge.specs.Shelf.{Files, Holds}
use Rattle.report_text.specs.Printed.{printed_run}
use Rattle.vcd_syntax.specs.Reading.{Fails, IsTable}
use Rattle.vcd_syntax.specs.declared.error.VcdError.{VcdError}
use Rattle.wave_text.specs.Dumped.{IsWave}
use Rattle.replies.specs.Text.{IsVcdLine}
use Rattle.replies.specs.Ends.{Passage, TookAll}

-- Done: the first file is a well-formed module and the second a table for it, and what was written is the value change dump of
-- the module's run from zeros over the table's vectors. Nothing stands on err.
pub record IsDumped (contents : Option Files) (file table : List ℕ) (err out : Passage) : Type 0 where
  pub verilog : List ℕ
  pub stimulus : List ℕ
  pub text : List ℕ
  pub module_held : Holds contents file verilog
  pub table_held : Holds contents table stimulus
  pub wave : IsWave verilog stimulus text
  pub written : TookAll out text
  pub quiet : TookAll err []

-- Done: the file is a value change dump, and what was written is its table, in the layout of a run. Nothing stands on err.
pub record IsPinTable (contents : Option Files) (file : List ℕ) (err out : Passage) : Type 0 where
  pub text : List ℕ
  pub pins : List Pin
  pub rows : List (List ℕ)
  pub held : Holds contents file text
  pub table : IsTable text pins rows
  pub written : TookAll out (printed_run pins rows)
  pub quiet : TookAll err []

-- BadVcd: the file is no dump that has a table, and what was written on err is the line of what is first wrong with it. Nothing
-- stands on out.
pub record IsToldVcd (contents : Option Files) (file : List ℕ) (err out : Passage) : Type 0 where
  pub text : List ℕ
  pub error : VcdError
  pub line : List ℕ
  pub held : Holds contents file text
  pub fails : Fails text error
  pub is : IsVcdLine file text error line
  pub told : TookAll err line
  pub quiet : TookAll out []
