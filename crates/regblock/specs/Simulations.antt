-- What an answer to `sim` promises.
use Rattle.std.specs.Prelude.{ℕ, List, [], Option}
use Rattle.rb_edge.specs.Shelf.{Files, Holds}
use Rattle.sim_run.specs.Simulated.{IsSimulated, IsProblem}
use Rattle.v_syntax.specs.Failing.{Fails}
use Rattle.v_syntax.specs.declared.error.VError.{VError}
use Rattle.replies.specs.Text.{verilog_line, stimulus_line}
use Rattle.replies.specs.Ends.{Passage, TookAll}

-- Done: the first file is a well-formed module and the second a table for it, and what was written is the module's run from
-- zeros over the table's vectors. Nothing stands on err.
pub record IsRun (contents : Option Files) (file table : List ℕ) (err out : Passage) : Type 0 where
  pub verilog : List ℕ
  pub stimulus : List ℕ
  pub text : List ℕ
  pub module_held : Holds contents file verilog
  pub table_held : Holds contents table stimulus
  pub run : IsSimulated verilog stimulus text
  pub written : TookAll out text
  pub quiet : TookAll err []

-- BadVerilog: the first file is no well-formed module, and what was written on err is the line of what is wrong with it.
-- Nothing stands on out.
pub record IsToldVerilog (contents : Option Files) (file : List ℕ) (err out : Passage) : Type 0 where
  pub verilog : List ℕ
  pub error : VError
  pub held : Holds contents file verilog
  pub fails : Fails verilog error
  pub told : TookAll err (verilog_line file verilog error)
  pub quiet : TookAll out []

-- BadStimulus: the first file is a well-formed module and the second no table for it, and what was written on err is the
-- line of the table's first problem. Nothing stands on out.
pub record IsToldStimulus (contents : Option Files) (file table : List ℕ) (err out : Passage) : Type 0 where
  pub verilog : List ℕ
  pub stimulus : List ℕ
  pub problem : List ℕ
  pub module_held : Holds contents file verilog
  pub table_held : Holds contents table stimulus
  pub fails : IsProblem verilog stimulus problem
  pub told : TookAll err (stimulus_line table problem)
  pub quiet : TookAll out []
