-- Last values in cells.
use Rattle.std.specs.Prelude.{ℕ, ◌==◌, nat_lt, if◌then◌else◌, Option, Some, None, List, [], ◌∷◌}

-- the value of a cell: a number below 2^31 is the cell itself, 2^31 says that it stands among the wide ones, and all else that there is none
abbrev pub value_in : (cell wide : ℕ) → Option ℕ
value_in cell wide = if nat_lt cell 2147483648 then Some cell else (if cell == 2147483648 then Some wide else None)

abbrev pub values_in : (cells wide : List ℕ) → List (Option ℕ)
values_in [] wide = []
values_in (c ∷ cs) [] = value_in c 0 ∷ values_in cs []
values_in (c ∷ cs) (w ∷ ws) = value_in c w ∷ values_in cs ws
