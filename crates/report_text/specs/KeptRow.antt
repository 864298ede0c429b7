-- The cells of a row that is kept, each behind a comma (this project's format).
use Rattle.std.specs.List.{flat_map}
use Rattle.std.specs.Prelude.{◌≡◌, ℕ, List, ◌∷◌, length, map}
use Rattle.report_text.specs.Printed.{cell}

-- a number as a cell behind a comma
abbrev pub next_cell : ℕ → List ℕ
next_cell x = 44 ∷ cell x

-- numbers as cells, each behind a comma
abbrev pub next_cells : List ℕ → List ℕ
next_cells xs = flat_map next_cell xs

-- how many bytes the cell of each number takes, with its comma
abbrev pub cell_lengths : List ℕ → List ℕ
cell_lengths xs = map (λ x. length (next_cell x)) xs

-- the lengths and the cells of these numbers
pub record AreCells (numbers lengths cells : List ℕ) : Type 0 where
  pub measured : lengths ≡ cell_lengths numbers
  pub printed : cells ≡ next_cells numbers
