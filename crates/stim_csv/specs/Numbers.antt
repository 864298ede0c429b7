-- Numbers in cells, of which some tell where a number stands.
use Rattle.std.specs.List.{list_all}
use Rattle.std.specs.Prelude.{◌≡◌, ℕ, ◌+◌, ◌-◌, Bool, true, nat_lt, if◌then◌else◌, List, ◌++◌, length, map, slice_index_or}

-- the number of a cell: one below 2^31 itself, and else the wide one that it tells
abbrev pub number_in : List ℕ → ℕ → ℕ
number_in wide cell = if nat_lt cell 2147483648 then cell else slice_index_or wide (cell - 2147483648) 0

abbrev pub numbers_in : List ℕ → List ℕ → List ℕ
numbers_in wide cells = map (number_in wide) cells

-- a cell has a number
abbrev pub is_cell : (wides cell : ℕ) → Bool
is_cell wides cell = nat_lt cell (2147483648 + wides)

abbrev pub AreCells : List ℕ → List ℕ → Type 0
AreCells wide cells = list_all (is_cell (length wide)) cells ≡ true

-- wide numbers with more behind them
abbrev pub IsMore : (old new : List ℕ) → Type 0
IsMore old new = (more : List ℕ) × (new ≡ old ++ more)
