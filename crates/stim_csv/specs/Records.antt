-- The records that a reader of the csv crate has left.
use Rattle.std.specs.Prelude.{◌≡◌, ℕ, ◌+◌, Bool, true, false, Option, Some, None, IsSome, List, [], ◌∷◌, length}
use Rattle.csv.specs.Reading.{Ready, reader_trim, reader_config, is_flexible, reader_state, source_of, default_config, records_from}
use Rattle.csv.specs.declared.reader.Reader.{Reader}
use Rattle.csv.specs.declared.reader.Trim.TheVariants as trim
use Rattle.csv.specs.declared.parser.State.{State}
use denote.Ref.{Bor}
use Rattle.stim_csv.specs.PinTable.{Cells}

-- a reader of bytes in memory
abbrev pub Source : Type 0
Source = Reader (Bor (List ℕ))

-- the bytes that a reader has left
abbrev pub bytes_left : Source → Option (List ℕ)
bytes_left reader = source_of (λ s. Some s.now) reader

-- a reader gives records of any lengths, with nothing trimmed
pub record Reads (reader : Source) : Type 0 where
  pub untrimmed : reader_trim reader ≡ trim.None
  pub ready : Ready reader
  pub plain : reader_config reader ≡ default_config
  pub flexible : is_flexible reader ≡ true
  pub going : IsSome (bytes_left reader)

-- the records from a state of the csv crate's machine on
abbrev pub records_after : State → Option (List ℕ) → List Cells
records_after state None = []
records_after state (Some bytes) = records_from default_config (length bytes + 1) state bytes

-- the records that a reader has left
abbrev pub records_left : Source → List Cells
records_left reader = records_after (reader_state reader) (bytes_left reader)

-- the next record was taken, or there was none
abbrev pub TakesNext : List Cells → List Cells → Bool → Cells → Type 0
TakesNext old new true cells = old ≡ cells ∷ new
TakesNext old new false cells = (old ≡ []) × (cells ≡ [])
