-- The number of an element of an array, from its indices.
use Rattle.std.specs.Prelude.{ℕ, ◌+◌, ◌*◌, ◌<◌, List, ◌∷◌}
use Rattle.std.specs.List.{AllZip}
use Rattle.rdl_values.specs.Rows.{product}

-- there are as many indices as dimensions, and each is below its own
abbrev pub AreWithin : List ℕ → List ℕ → Type 0
AreWithin dims index = AllZip (λ d i. i < d) dims index

-- the last index counts fastest
abbrev pub number_in : List ℕ → List ℕ → ℕ
number_in (d ∷ ds) (i ∷ is) = i * product ds + number_in ds is
number_in _ _ = 0
