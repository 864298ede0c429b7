-- What an answer to `gen` promises.
use Rattle.std.specs.Prelude.{ℕ, None}
use Rattle.rb_model.specs.declared.block.Block.{Block}
use Rattle.rdl_tree.specs.declared.item.Source.{Source}
use Rattle.replies.specs.Verdict.{IsDescribedWith}
use Rattle.command_line.specs.Source.{source_of, summary_of}
use Rattle.replies.specs.Ends.{Passage, TookAll}
use Rattle.replies.specs.Outcome.{IsModuleLength}

-- Done: what was written on out is the source of so many registers, which breaks no rule, and on err its summary, with the
-- length of a module that agrees with the block that it describes.
pub record IsSizedSource (count : ℕ) (err out : Passage) : Type 0 where
  pub tree : Source
  pub block : Block
  pub bytes : ℕ
  pub described : IsDescribedWith None (source_of count) tree 0 block
  pub long : IsModuleLength block bytes
  pub written : TookAll out (source_of count)
  pub summed : TookAll err (summary_of count bytes)
