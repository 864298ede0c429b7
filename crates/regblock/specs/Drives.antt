-- What an answer to `drive` promises.
use Rattle.std.specs.Prelude.{◌≡◌, ℕ, List, [], Option, Err}
use Rattle.rb_edge.specs.Shelf.{Files, Holds}
use Rattle.rb_model.specs.declared.block.Block.{Block}
use Rattle.rdl_tree.specs.declared.item.Source.{Source}
use Rattle.drive_lang.specs.declared.error.DriveError.{DriveError}
use Rattle.drive_lang.specs.Scripts.{script_of}
use Rattle.replies.specs.Verdict.{IsDescribedWith}
use Rattle.replies.specs.Outcome.{IsDriveText}
use Rattle.replies.specs.Text.{script_line}
use Rattle.replies.specs.Ends.{Passage, TookAll}

-- the first file is a source that describes this block without wait states, and the second holds a script
pub record HasScript (contents : Option Files) (top : Option (List ℕ)) (file script : List ℕ) (block : Block) (bytes : List ℕ) : Type 0 where
  pub source : List ℕ
  pub tree : Source
  pub source_held : Holds contents file source
  pub script_held : Holds contents script bytes
  pub described : IsDescribedWith top source tree 0 block

-- Done, where no check failed, and Unmet, where some did: the source breaks no rule, and what was written is what the script sees of its
-- block's machine from zeros, which it sees of any module of the block too. Nothing stands on err.
pub record IsDriven (contents : Option Files) (top : Option (List ℕ)) (file script : List ℕ) (failed : ℕ) (err out : Passage) : Type 0 where
  pub block : Block
  pub bytes : List ℕ
  pub text : List ℕ
  pub has : HasScript contents top file script block bytes
  pub drives : IsDriveText block bytes text failed
  pub written : TookAll out text
  pub quiet : TookAll err []

-- BadScript: the source breaks no rule, and what was written on err is the line of the script's first error for its block. Nothing stands
-- on out.
pub record IsToldScript (contents : Option Files) (top : Option (List ℕ)) (file script : List ℕ) (err out : Passage) : Type 0 where
  pub block : Block
  pub bytes : List ℕ
  pub error : DriveError
  pub has : HasScript contents top file script block bytes
  pub fails : script_of block bytes ≡ Err error
  pub told : TookAll err (script_line script error)
  pub quiet : TookAll out []
