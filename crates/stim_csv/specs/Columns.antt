-- What a header of the program says of a table's header.
use Rattle.std.specs.Prelude.{◌≡◌, ℕ, ◌<◌, Option, Some, None, List, [], map, length, slice_index, slice_index_or}
use Rattle.std.specs.List.{AllByRecursion}
use Rattle.rb_base.specs.declared.ports.Pin.{Pin}
use Rattle.stim_csv.specs.PinTable.{Cells, column_of, width_of, number_of}
use Rattle.stim_csv.specs.declared.header.Header.{Header}
use Rattle.stim_csv.specs.declared.error.StimError.{StimError}
use Rattle.stim_csv.specs.declared.error.StimError.TheVariants.{MissingPin}

-- each pin's column, and the width of each column
pub record IsHeaderOf (pins : List Pin) (names : Cells) (header : Header) : Type 0 where
  pub columns : map Some header.columns.items ≡ map (λ p. column_of names p.name) pins
  pub widths : header.widths.items ≡ map (width_of pins) names

-- a pin has no column
abbrev pub unfound_problem : ℕ → Option ℕ → Option StimError
unfound_problem place None = Some (MissingPin place)
unfound_problem place (Some column) = None

-- each pin's column is one of the header's
abbrev pub AreColumns : Header → Type 0
AreColumns header = AllByRecursion (λ c. c < length header.widths.items) header.columns.items

-- the numbers of the cells in these columns
abbrev pub numbers_in : List ℕ → Cells → List ℕ
numbers_in columns cells = map (λ c. number_of (slice_index_or cells c [])) columns

-- the numbers of a row in these columns
abbrev pub picked : List ℕ → List ℕ → List ℕ
picked columns row = map (λ c. slice_index row c) columns
