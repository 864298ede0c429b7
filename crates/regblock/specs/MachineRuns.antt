-- What an answer to `run` promises.
use Rattle.std.specs.Prelude.{ℕ, List, [], Option}
use Rattle.rb_edge.specs.Shelf.{Files, Holds}
use Rattle.rb_model.specs.declared.block.Block.{Block}
use Rattle.rdl_tree.specs.declared.item.Source.{Source}
use Rattle.replies.specs.Verdict.{IsDescribedWith}
use Rattle.machine_run.specs.Runs.{IsProblem, IsBreak}
use Rattle.replies.specs.Outcome.{IsRunText}
use Rattle.replies.specs.Text.{stimulus_line, protocol_line}
use Rattle.replies.specs.Ends.{Passage, TookAll}

-- the first file is a source that describes this block, and the second holds a table
pub record HasTable (contents : Option Files) (waits : ℕ) (top : Option (List ℕ)) (file table : List ℕ) (block : Block) (stimulus : List ℕ) : Type 0 where
  pub source : List ℕ
  pub tree : Source
  pub source_held : Holds contents file source
  pub table_held : Holds contents table stimulus
  pub described : IsDescribedWith top source tree waits block

-- Done: the source breaks no rule, and what was written is the run of its block's machine from zeros over the table's vectors:
-- what a simulation of any module of the block prints for this table. Nothing stands on err.
pub record IsMachineRun (contents : Option Files) (waits : ℕ) (top : Option (List ℕ)) (file table : List ℕ) (err out : Passage) : Type 0 where
  pub block : Block
  pub stimulus : List ℕ
  pub text : List ℕ
  pub has : HasTable contents waits top file table block stimulus
  pub run : IsRunText block stimulus text
  pub written : TookAll out text
  pub quiet : TookAll err []

-- BadStimulus: the source breaks no rule, and what was written on err is the line of the first problem of the table for its
-- block. Nothing stands on out.
pub record IsToldUnfit (contents : Option Files) (waits : ℕ) (top : Option (List ℕ)) (file table : List ℕ) (err out : Passage) : Type 0 where
  pub block : Block
  pub stimulus : List ℕ
  pub problem : List ℕ
  pub has : HasTable contents waits top file table block stimulus
  pub fails : IsProblem block stimulus problem
  pub told : TookAll err (stimulus_line table problem)
  pub quiet : TookAll out []

-- Protocol: the source breaks no rule, and what was written on err is the line of the first row of the table that breaks the
-- bus protocol. Nothing stands on out.
pub record IsToldBreak (contents : Option Files) (waits : ℕ) (top : Option (List ℕ)) (file table : List ℕ) (err out : Passage) : Type 0 where
  pub block : Block
  pub stimulus : List ℕ
  pub row : ℕ
  pub has : HasTable contents waits top file table block stimulus
  pub breaks : IsBreak block stimulus row
  pub told : TookAll err (protocol_line table row)
  pub quiet : TookAll out []
