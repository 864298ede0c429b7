-- The elements of an array by their numbers.
use Rattle.std.specs.Prelude.{ℕ, ◌*◌, ◌/◌, ◌%◌, List, [], ◌∷◌}

-- how many elements there are
abbrev pub product : List ℕ → ℕ
product [] = 1
product (d ∷ ds) = d * product ds

-- the indices of element k, the last index fastest
abbrev pub row : List ℕ → ℕ → List ℕ
row [] k = []
row (d ∷ ds) k = k / product ds ∷ row ds (k % product ds)
