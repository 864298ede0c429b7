-- What the machine of a block is answered to give over a table.
use Rattle.std.specs.Prelude.{◌≡◌, ℕ, List, []}
use Rattle.rb_model.specs.declared.block.Block.{Block}
use Rattle.machine_run.specs.Runs.{IsProblem, IsBreak}
use Rattle.replies.specs.declared.status.Status.{Status}
use Rattle.replies.specs.declared.status.Status.TheVariants.{Done, BadStimulus, Protocol}
use Rattle.replies.specs.Text.{stimulus_line, protocol_line}
use Rattle.replies.specs.Outcome.{IsNotice, IsRunText, Texts}

-- its run, the table's first problem, or the first row that breaks the protocol
abbrev pub IsRunAnswer : Block → (table stimulus : List ℕ) → Status → Texts → Type 0
IsRunAnswer b table stimulus Done texts = IsRunText b stimulus texts.out × (texts.err ≡ [])
IsRunAnswer b table stimulus BadStimulus texts = (problem : List ℕ) × IsProblem b stimulus problem × IsNotice texts (stimulus_line table problem)
IsRunAnswer b table stimulus Protocol texts = (row : ℕ) × IsBreak b stimulus row × IsNotice texts (protocol_line table row)
IsRunAnswer b table stimulus _ texts = ⊥
