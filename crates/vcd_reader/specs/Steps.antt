-- What a reader keeps of the words so far, and what one more word makes of it.
use Rattle.std.specs.List.{AllByRecursion, last_or}
use Rattle.std.specs.Prelude.{◌≡◌, ◌≢◌, ℕ, ◌+◌, ◌-◌, ◌*◌, ◌<◌, ◌≤◌, Bool, true, false, IsSomeAnd, Option, Some, None, List, [], length, map, slice_get}
use Rattle.stim_csv.specs.Vectors.{cut}
use Rattle.vcd_syntax.specs.declared.error.VcdError.{VcdError}
use Rattle.vcd_syntax.specs.declared.error.VcdError.TheVariants as error
use Rattle.vcd_syntax.specs.declared.kind.Kind.{Kind}
use Rattle.vcd_syntax.specs.declared.kind.Kind.TheVariants as kind
use Rattle.vcd_syntax.specs.Words.{is}
use Rattle.vcd_syntax.specs.Tokens.{Word}
use Rattle.vcd_syntax.specs.Meaning.{Event, times, last_given, before_time}
use Rattle.vcd_syntax.specs.declared.state.State.{State}
use Rattle.vcd_syntax.specs.declared.state.State.TheVariants as state
use Rattle.vcd_syntax.specs.Known.{Known, more, Fine, judge, AreApart, AreGiven}
use Rattle.vcd_syntax.specs.Reads.{Reads}
use Rattle.vcd_reader.specs.Reading.{TellsVerdict}
use Rattle.vcd_reader.specs.declared.rows.Rows.{Rows}
use Rattle.vcd_reader.specs.declared.variables.Variables.{Variables}
use Rattle.vcd_reader.specs.declared.said.Said.{Said}
use Rattle.vcd_reader.specs.declared.words.Word.{Word as Placed}

-- what is known of no words
abbrev pub nothing : Known
nothing = record { codes = []; names = []; widths = []; events = []; word = [] }

-- what is kept of variables is what is known
pub record HoldsVariables (v : Variables) (k : Known) : Type 0 where
  pub codes : v.codes ≡ k.codes
  pub names : v.names ≡ k.names
  pub widths : v.widths.items ≡ k.widths
  pub now : v.now ≡ map (last_given k.events) k.codes
  pub fit : AllByRecursion (λ w. (1 ≤ w) × (w ≤ 128)) k.widths

-- the values of variables at a time
abbrev pub known_row : List (List ℕ) → List Event → ℕ → List (Option ℕ)
known_row cs es i = map (last_given (before_time (i + 1) es)) cs

-- the rows that values are, of all times but the last
abbrev pub ended_rows : List (List ℕ) → List Event → List ℕ → List (List ℕ)
ended_rows cs es values = cut (length cs) (length (times es) - 1) values

-- the rows of all times but the last one
pub record AreEnded (cs : List (List ℕ)) (es : List Event) (values : List ℕ) : Type 0 where
  pub whole : length values ≡ (length (times es) - 1) * length cs
  pub each : (i : ℕ) → i < length (ended_rows cs es values) → IsSomeAnd (slice_get (ended_rows cs es values) i) (λ row. map Some row ≡ known_row cs es i)

-- this variable is the first without a value in a row
pub record IsFirstNone (row : List (Option ℕ)) (i : ℕ) : Type 0 where
  pub none : slice_get row i ≡ Some None
  pub before : (j : ℕ) → j < i → slice_get row j ≡ Some None → ⊥

-- what is kept of the rows, or that the first one has ended without a value of this variable
abbrev pub AreKept : List (List ℕ) → List Event → Option ℕ → List ℕ → Type 0
AreKept cs es None values = AreEnded cs es values
AreKept cs es (Some i) values = (1 < length (times es)) × IsFirstNone (known_row cs es 0) i

pub record HoldsRows (r : Rows) (k : Known) : Type 0 where
  pub last : r.last ≡ last_or None (times k.events)
  pub times : r.times ≡ length (times k.events)
  pub kept : AreKept k.codes k.events r.missing r.values

-- a change has a code
abbrev pub takes : Kind → Bool
takes kind.Scalar = true
takes kind.Taker = true
takes _ = false

-- a reader holds what is known, and a word of a kind comes where it may
pub record IsReady (x : Kind) (w : List ℕ) (s : Said) (k : Known) : Type 0 where
  pub variables : HoldsVariables s.variables k
  pub rows : HoldsRows s.rows k
  pub word : s.last.text.now ≡ k.word
  pub apart : AreApart k.codes
  pub given : AreGiven k.events k.codes
  pub is : is x w ≡ true
  pub early : x ≡ kind.Code → k.events ≡ []
  pub whole : takes x ≡ true → length k.widths ≡ length k.codes

-- a word of a kind is fine, and the reader holds what is known with it
abbrev pub Goes : Kind → (old new : Said) → List ℕ → Type 0
Goes x old new w = (k : Known) → IsReady x w old k → (judge x w k ≡ Fine) × HoldsVariables new.variables (more x w k) × HoldsRows new.rows (more x w k)

-- an error is the verdict on a word of a kind
abbrev pub Errs : Kind → Said → Placed → VcdError → Type 0
Errs x old w e = e ≢ error.NoMemory → (k : Known) → IsReady x w.text.now old k → TellsVerdict e (judge x w.text.now k) w.place.0 old.last.place.0

-- the definitions have not ended
abbrev pub is_early : State → Bool
is_early state.Entries = false
is_early state.Taker = false
is_early state.Dump = false
is_early state.DumpTaker = false
is_early state.Commented = false
is_early _ = true

-- a text is read without a fault up to these words, and the reader holds what is known of the others
pub record IsSaid (text : List ℕ) (left : List Word) (s : Said) : Type 0 where
  pub known : Known
  pub reads : Reads text left s.state known s.last.place.0
  pub word : s.last.text.now ≡ known.word
  pub variables : HoldsVariables s.variables known
  pub rows : HoldsRows s.rows known
  pub early : is_early s.state ≡ true → known.events ≡ []
