-- The outcome for words that ask for a command.
use Rattle.std.proofs.Common.{⊎_elim, ℕ, List, Option, subst}
use Rattle.rb_edge.specs.Shelf.{Files}
use Rattle.command_line.specs.Words.{Command, Asks}
use Rattle.command_line.proofs.Asking.{one-command}
use Rattle.replies.specs.declared.status.Status.{Status}
use Rattle.replies.specs.Outcome.{Answers, Outcome, Texts}

-- it is an answer to this command
pub asked : (words : List (List ℕ)) (contents : Option Files) (failed : List ℕ → Type 0) (wanted : Command) (status : Status) (texts : Texts)
    → Asks words wanted → Outcome words contents failed status texts → Answers contents failed wanted status texts
asked words contents failed wanted status texts asks is = ⊎_elim
    (λ other. let P : Command → Type 0 = λ c. Answers contents failed c status texts in subst P (one-command words other.0 wanted other.1 asks) other.2)
    (λ none. absurd (none.0 wanted asks)) is
