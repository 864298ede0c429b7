-- What a script is answered to see of a block's machine.
use Rattle.std.specs.Prelude.{◌≡◌, ◌==◌, ◌<◌, ℕ, cond, List, [], Err}
use Rattle.rb_model.specs.declared.block.Block.{Block}
use Rattle.drive_lang.specs.declared.error.DriveError.{DriveError}
use Rattle.drive_lang.specs.Scripts.{script_of}
use Rattle.replies.specs.declared.status.Status.{Status}
use Rattle.replies.specs.declared.status.Status.TheVariants.{Done, BadScript, Unmet}
use Rattle.replies.specs.Text.{script_line}
use Rattle.replies.specs.Outcome.{IsDriveText, IsNotice, Texts}

-- the status where so many checks failed
abbrev pub status_of_checks : (failed : ℕ) → Status
status_of_checks failed = cond (failed == 0) Done Unmet

-- what it saw, without failed checks or with some, or the script's first error
abbrev pub IsDriveAnswer : Block → (file bytes : List ℕ) → Status → Texts → Type 0
IsDriveAnswer b file bytes Done texts = IsDriveText b bytes texts.out 0 × (texts.err ≡ [])
IsDriveAnswer b file bytes Unmet texts = (failed : ℕ) × (0 < failed) × IsDriveText b bytes texts.out failed × (texts.err ≡ [])
IsDriveAnswer b file bytes BadScript texts = (error : DriveError) × (script_of b bytes ≡ Err error) × IsNotice texts (script_line file error)
IsDriveAnswer b file bytes _ texts = ⊥
