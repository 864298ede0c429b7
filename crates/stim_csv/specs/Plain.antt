-- Texts that need no quotes: lines of bytes that stand for themselves, and rows of digits.
use Rattle.std.specs.Prelude.{◌≡◌, ℕ, ◌<◌, ◌≤◌, Bool, true, ◌==◌, ◌&&◌, not, nat_lt, Some, None, List, [], ◌∷◌, ◌++◌, length, take, drop, map, slice_index_or}
use Rattle.std.specs.List.{AllByRecursion}
use Rattle.csv.specs.Machine.{next_record}
use Rattle.csv.specs.Reading.{default_config}
use Rattle.csv.specs.declared.parser.State.TheVariants.{StartRecord}
use Rattle.stim_csv.specs.Numeral.{numeral_value, cell_value, fits}
use Rattle.stim_csv.specs.PinTable.{Cells, cells_problem, header_problem, number_of, records_of}
use Rattle.stim_csv.specs.Columns.{IsHeaderOf}
use Rattle.stim_csv.specs.Records.{records_after}
use Rattle.stim_csv.specs.declared.header.Header.{Header}
use Rattle.rb_base.specs.declared.ports.Pin.{Pin}

-- neither a quote nor the end of a line, and of ASCII
abbrev pub is_of_line : ℕ → Bool
is_of_line c = nat_lt c 127 && not (c == 34) && not (c == 13) && not (c == 10)

-- nor a comma
abbrev pub is_plain : ℕ → Bool
is_plain c = not (c == 44) && not (c == 34) && not (c == 13) && not (c == 10)

-- the bytes up to this place are a line, which is not empty, and a line feed ends it
pub record IsLine (text : List ℕ) (end : ℕ) : Type 0 where
  pub some : 1 ≤ end
  pub within : end < length text
  pub ended : slice_index_or text end 0 ≡ 10
  pub plain : AllByRecursion (λ c. is_of_line c ≡ true) (take end text)

-- so many digits at the beginning of a text write this number
pub record Leads (radix : ℕ) (text : List ℕ) (number count : ℕ) : Type 0 where
  pub within : count < length text
  pub value : numeral_value radix (take count text) ≡ Some number

-- so many bytes at the beginning of a text are a cell of this number
pub record IsCellAhead (text : List ℕ) (number count : ℕ) : Type 0 where
  pub within : count < length text
  pub value : cell_value (take count text) ≡ Some number
  pub plain : AllByRecursion (λ c. is_plain c ≡ true) (take count text)

-- a text is a cell of this number, which fits so many bits, this byte, and the rest
pub record IsCellBefore (separator width : ℕ) (text rest : List ℕ) (number : ℕ) : Type 0 where
  pub cell : List ℕ
  pub text_is : text ≡ cell ++ separator ∷ rest
  pub value : cell_value cell ≡ Some number
  pub fitting : fits width number ≡ true
  pub plain : AllByRecursion (λ c. is_plain c ≡ true) cell

-- a text is a row of such cells and the rest
pub record IsRow (widths : List ℕ) (text rest : List ℕ) (numbers : List ℕ) : Type 0 where
  pub cells : Cells
  pub taken : next_record default_config StartRecord [] [] text ≡ Some (cells, StartRecord, rest)
  pub sound : (row : ℕ) → cells_problem widths row cells ≡ None
  pub numbers_are : numbers ≡ map number_of cells

-- so many bytes are a cell of this number, which fits so many bits, and this byte
pub record IsCellWith (separator width number : ℕ) (bytes : List ℕ) : Type 0 where
  pub cell : List ℕ
  pub bytes_are : bytes ≡ cell ++ separator ∷ []
  pub value : cell_value cell ≡ Some number
  pub fitting : fits width number ≡ true
  pub plain : AllByRecursion (λ c. is_plain c ≡ true) cell

-- the byte behind a cell that has cells of these widths behind it
abbrev pub separator_before : List ℕ → ℕ
separator_before [] = 10
separator_before (w ∷ ws) = 44

-- a text is cells of these widths, lengths and numbers, and the rest: a length counts the byte behind the cell too
abbrev pub AreCellsOf : (widths lengths numbers text rest : List ℕ) → Type 0
AreCellsOf [] [] [] text rest = text ≡ rest
AreCellsOf [] [] (n ∷ ns) text rest = ⊥
AreCellsOf [] (l ∷ ls) ns text rest = ⊥
AreCellsOf (w ∷ ws) [] ns text rest = ⊥
AreCellsOf (w ∷ ws) (l ∷ ls) [] text rest = ⊥
AreCellsOf (w ∷ ws) (l ∷ ls) (n ∷ ns) text rest = (l ≤ length text) × IsCellWith (separator_before ws) w n (take l text) × AreCellsOf ws ls ns (drop l text) rest

-- the cells of a row from a column on were read: their lengths stand in the places of their columns, and their numbers were added
pub record AddsCells (widths : List ℕ) (first : ℕ) (text rest lengths lengths' old new : List ℕ) : Type 0 where
  pub measured : List ℕ
  pub numbers : List ℕ
  pub lengths_are : lengths' ≡ take first lengths ++ measured
  pub added : new ≡ old ++ numbers
  pub cells : AreCellsOf (drop first widths) measured numbers text rest

-- the last of these numbers are of the cells of a row
pub record HasRow (widths text rest lengths all : List ℕ) : Type 0 where
  pub earlier : List ℕ
  pub numbers : List ℕ
  pub all_are : all ≡ earlier ++ numbers
  pub cells : AreCellsOf widths lengths numbers text rest

-- the records of a text from the beginning of one on
abbrev pub rows_at : List ℕ → ℕ → List Cells
rows_at text at = records_after StartRecord (Some (drop at text))

-- the first record of a line names these pins, as the header says
pub record HeadsLine (pins : List Pin) (line : List ℕ) (header : Header) : Type 0 where
  pub names : Cells
  pub more : List Cells
  pub first : records_of line ≡ names ∷ more
  pub header_is : IsHeaderOf pins names header
  pub sound : header_problem pins names ≡ None
