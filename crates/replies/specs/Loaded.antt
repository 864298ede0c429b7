-- How the loading of a file ended.
use Rattle.std.specs.Prelude.{◌≡◌, ◌⊎◌, ℕ, List, Option}
use Rattle.rb_edge.specs.Shelf.{Files, IsLonger}
use Rattle.replies.specs.declared.loading.Loaded.{Loaded}
use Rattle.replies.specs.declared.loading.Loaded.TheVariants.{Bytes, Stopped}
use Rattle.replies.specs.declared.status.Status.TheVariants.{ReadFault, TooLong}
use Rattle.replies.specs.declared.answer.Answer.{Answer}
use Rattle.replies.specs.Answer.{texts_of}
use Rattle.replies.specs.Outcome.{IsRead, IsNotice}
use Rattle.replies.specs.Text.{cannot_read, too_long}

-- the file can't be read, or it is too long
abbrev pub Stops : Option Files → (List ℕ → Type 0) → List ℕ → ℕ → Answer → Type 0
Stops contents failed file limit answer =
    ((answer.status ≡ ReadFault) × failed file × IsNotice (texts_of answer) (cannot_read file)) ⊎ ((answer.status ≡ TooLong) × IsLonger contents file limit × IsNotice (texts_of answer) (too_long file limit))

-- the file was read whole, or an answer says why not
abbrev pub IsLoaded : Option Files → (List ℕ → Type 0) → List ℕ → ℕ → Loaded → Type 0
IsLoaded contents failed file limit (Bytes bytes) = IsRead contents file limit bytes.items
IsLoaded contents failed file limit (Stopped answer) = Stops contents failed file limit answer
