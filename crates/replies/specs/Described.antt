-- What a source is found to be.
use Rattle.std.specs.Prelude.{◌≡◌, ℕ, List, [], Option}
use Rattle.rdl_tree.specs.declared.item.Source.{Source}
use Rattle.rdl_verdict.specs.Verdict.{accesses}
use Rattle.replies.specs.Verdict.{IsDescribedWith}
use Rattle.replies.specs.declared.describing.Described.{Described}
use Rattle.replies.specs.declared.describing.Described.TheVariants.{Clean, Stopped}
use Rattle.replies.specs.declared.status.Status.TheVariants.{Refused}
use Rattle.replies.specs.Answer.{texts_of}
use Rattle.replies.specs.Outcome.{IsRefused, IsUnfronted}

-- the block that the source describes, or an answer that names the first rule that it breaks
abbrev pub IsFoundFor : ℕ → Option (List ℕ) → (file source : List ℕ) → Described → Type 0
IsFoundFor waits top file source (Clean block) = (tree : Source) × IsDescribedWith top source tree waits block
IsFoundFor waits top file source (Stopped answer) = (answer.status ≡ Refused) × IsRefused top file source (texts_of answer)

-- for a bus of 32 data bits: the block, each of whose registers is accessed 32 bits at once, or an answer that names the first failure
abbrev pub IsFoundForAxi : Option (List ℕ) → (file source : List ℕ) → Described → Type 0
IsFoundForAxi top file source (Clean block) = (tree : Source) × IsDescribedWith top source tree 0 block × accesses top tree []
IsFoundForAxi top file source (Stopped answer) = (answer.status ≡ Refused) × IsUnfronted top file source (texts_of answer)
