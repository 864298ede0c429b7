-- The table of pins that bytes are, or the first problem in them (this project's rules).
use Rattle.std.specs.Prelude.{ℕ, ◌+◌, ◌*◌, Bool, ◌==◌, ◌||◌, nat_lt, if◌then◌else◌, Option, Some, None, is_some, is_none, unwrap_or, Result, Ok, Err, List, [], ◌∷◌, length, take, map, slice_index, slice_index_or}
use Rattle.std.specs.Option.{option_or, option_map_or}
use Rattle.std.specs.List.{position_from}
use Rattle.std.specs.Str.{bytes_eq}
use Rattle.csv.specs.Reading.{records, default_config, strip_bom}
use Rattle.rb_base.specs.declared.ports.Pin.{Pin}
use Rattle.stim_csv.specs.Numeral.{cell_value, fits}
use Rattle.stim_csv.specs.declared.error.StimError.{StimError}
use Rattle.stim_csv.specs.declared.error.StimError.TheVariants.{UnknownPin, TwicePin, MissingPin, TooMany, Form, TooWide}

-- a record: its cells
abbrev pub Cells : Type 0
Cells = List (List ℕ)

-- the records of bytes, as the csv crate reads them: of any lengths, with nothing trimmed
abbrev pub records_of : List ℕ → List Cells
records_of bytes = records default_config (strip_bom bytes)

-- the first problem of a list, the places of which count from k
unfoldable pub first_problem : {A : Type 0} → (ℕ → A → Option StimError) → ℕ → List A → Option StimError
first_problem problem k [] = None
first_problem problem k (x ∷ xs) = option_or (problem k x) (first_problem problem (k + 1) xs)

-- the width of the pin of this name
unfoldable pub width_of : List Pin → List ℕ → ℕ
width_of [] name = 0
width_of (p ∷ ps) name = if bytes_eq name p.name then p.width else width_of ps name

-- the place of the pin of this name
abbrev pub place_of : List Pin → List ℕ → Option ℕ
place_of pins name = position_from (λ p. bytes_eq name p.name) 0 pins

-- the column of this pin's name
abbrev pub column_of : Cells → List ℕ → Option ℕ
column_of header pin = position_from (λ name. bytes_eq name pin) 0 header

-- a column of the header names no pin, or the pin of an earlier column
unfoldable pub column_problem : List Pin → Cells → ℕ → List ℕ → Option StimError
column_problem pins header column name =
    if is_none (place_of pins name) then Some (UnknownPin column)
    else (if is_some (column_of (take column header) name) then Some (TwicePin column) else None)

-- a pin is in no column
unfoldable pub pin_problem : Cells → ℕ → Pin → Option StimError
pin_problem header place pin = if is_none (column_of header pin.name) then Some (MissingPin place) else None

-- a cell with this value is no number, or one that does not fit so many bits
abbrev pub value_problem : ℕ → ℕ → ℕ → Option ℕ → Option StimError
value_problem width row column None = Some (Form row)
value_problem width row column (Some n) = if fits width n then None else Some (TooWide row column)

-- a cell of a row is no number, or does not fit its column
abbrev pub cell_problem : List ℕ → ℕ → ℕ → List ℕ → Option StimError
cell_problem widths row column cell = value_problem (slice_index widths column) row column (cell_value cell)

-- a row has not as many cells as there are columns, or has a cell with a problem
abbrev pub cells_problem : List ℕ → ℕ → Cells → Option StimError
cells_problem widths row cells =
    if length cells == length widths then first_problem (cell_problem widths row) 0 cells else Some (Form row)

-- a table has at most 1,000,000 rows, and at most 16,777,216 numbers in its answer
abbrev pub is_too_many : ℕ → ℕ → Bool
is_too_many row outputs = row == 1000000 || nat_lt 16777216 ((row + 1) * outputs)

-- a row is one too many, or has a problem in its cells
unfoldable pub row_problem : List ℕ → ℕ → ℕ → Cells → Option StimError
row_problem widths outputs row cells =
    if is_too_many row outputs then Some (TooMany row) else cells_problem widths row cells

-- the first problem of a header: of its columns from the left, and then of the pins in order
abbrev pub header_problem : List Pin → Cells → Option StimError
header_problem pins header =
    option_or (first_problem (column_problem pins header) 0 header) (first_problem (pin_problem header) 0 pins)

-- the first problem of a table: of its header, and then of its rows in order
abbrev pub table_problem : List Pin → ℕ → Cells → List Cells → Option StimError
table_problem pins outputs header rows =
    option_or (header_problem pins header) (first_problem (row_problem (map (width_of pins) header) outputs) 0 rows)

-- the number of a cell, and 0 where it is none
unfoldable pub number_of : List ℕ → ℕ
number_of cell = unwrap_or (cell_value cell) 0

-- the number of the cell in this pin's column
abbrev pub number_under : Cells → Cells → List ℕ → ℕ
number_under header cells pin = option_map_or (λ column. number_of (slice_index_or cells column [])) (column_of header pin) 0

-- the numbers of the pins in a row, in the order of the pins
abbrev pub vector_of : List Pin → Cells → Cells → List ℕ
vector_of pins header cells = map (λ p. number_under header cells p.name) pins

-- the vectors, unless there is a problem
abbrev pub unless : Option StimError → List (List ℕ) → Result (List (List ℕ)) StimError
unless None vectors = Ok vectors
unless (Some e) vectors = Err e

-- the vectors of a table with this header, or its first problem
abbrev pub table_under : List Pin → ℕ → Cells → List Cells → Result (List (List ℕ)) StimError
table_under pins outputs header rows = unless (table_problem pins outputs header rows) (map (vector_of pins header) rows)

-- the vectors of these records, or their first problem: the first record is the header, and no record is an empty one
abbrev pub table_of : List Pin → ℕ → List Cells → Result (List (List ℕ)) StimError
table_of pins outputs [] = table_under pins outputs [] []
table_of pins outputs (header ∷ rows) = table_under pins outputs header rows
