-- What the lines of a script mean one by one, and which is the first with an error (this project's format). Numbers count from 1.
use Rattle.std.specs.Prelude.{◌≡◌, ◌+◌, ◌<◌, ℕ, zero, suc, Option, None, Some, Ok, Err, List, [], ◌∷◌, length, slice_get}
use Rattle.std.specs.List.{enumerate_from, flat_map}
use Rattle.rb_model.specs.declared.block.Block.{Block}
use Rattle.drive_lang.specs.declared.order.Line.{Line}
use Rattle.drive_lang.specs.Steps.{Step, played, vectors_of}
use Rattle.drive_lang.specs.declared.error.DriveError.{DriveError}
use Rattle.drive_lang.specs.declared.error.DriveError.TheVariants.{Many}
use Rattle.drive_lang.specs.Lines.{lines_of, words_of}
use Rattle.drive_lang.specs.Orders.{Judged, spelled}
use Rattle.drive_lang.specs.Scripts.{at_first, most_vectors}

-- the order or the error of a line by its words alone; a line without words has none
abbrev pub judged : Block → (number : ℕ) → (words : List (List ℕ)) → Option Judged
judged b number [] = None
judged b number (w ∷ ws) = Some (spelled b number (w ∷ ws))

abbrev pub judged_text : Block → (number : ℕ) → Option (List ℕ) → Option Judged
judged_text b number None = None
judged_text b number (Some text) = judged b number (words_of text)

-- that of the line behind k others
abbrev pub judged_at : Block → (texts : List (List ℕ)) → (k : ℕ) → Option Judged
judged_at b texts k = judged_text b (k + 1) (slice_get texts k)

abbrev pub vectors_judged : Option Judged → ℕ
vectors_judged (Some (Ok order)) = vectors_of order
vectors_judged _ = 0

-- how many vectors the first k lines have
abbrev pub vectors_before : Block → (texts : List (List ℕ)) → (k : ℕ) → ℕ
vectors_before b texts zero = 0
vectors_before b texts (suc k) = vectors_before b texts k + vectors_judged (judged_at b texts k)

-- the error of a line: that of its words, or that with it there are more vectors than a script may have
abbrev pub IsWrong : (number before : ℕ) → Option Judged → DriveError → Type 0
IsWrong number before None e = ⊥
IsWrong number before (Some (Err own)) e = e ≡ own
IsWrong number before (Some (Ok order)) e = (most_vectors < before + vectors_of order) × (e ≡ Many number)

-- the line behind k others has this error
abbrev pub IsError : Block → (texts : List (List ℕ)) → (k : ℕ) → DriveError → Type 0
IsError b texts k e = IsWrong (k + 1) (vectors_before b texts k) (judged_at b texts k) e

-- a line has the error, and none before it has one
pub record IsFirstError (b : Block) (bytes : List ℕ) (e : DriveError) : Type 0 where
  pub place : ℕ
  pub within : place < length (lines_of bytes)
  pub error : IsError b (lines_of bytes) place e
  pub first : (k : ℕ) (x : DriveError) → k < place → IsError b (lines_of bytes) k x → ⊥

-- the line of an order
abbrev pub asked_by : (number : ℕ) → Option Judged → List Line
asked_by number (Some (Ok order)) = record { number = number; order = order } ∷ []
asked_by number _ = []

-- the lines that ask for something, of some texts whose first has this number
abbrev pub asked : Block → (number : ℕ) → (texts : List (List ℕ)) → List Line
asked b number texts = flat_map (λ t. asked_by t.0 (judged b t.0 (words_of t.1))) (enumerate_from number texts)

-- no line has an error, and these are the steps of the lines that ask for something, where the inputs behind those of the bus are 0 at first
pub record IsScript (b : Block) (bytes : List ℕ) (steps : List Step) : Type 0 where
  pub right : (k : ℕ) (e : DriveError) → IsError b (lines_of bytes) k e → ⊥
  pub plays : steps ≡ played (asked b 1 (lines_of bytes)) (at_first b)
