-- Lists of one length, one behind the other.
use Rattle.std.specs.Prelude.{ℕ, zero, suc, List, [], ◌∷◌, take, drop}

-- so many lists of this length
unfoldable pub cut : ℕ → ℕ → List ℕ → List (List ℕ)
cut width zero xs = []
cut width (suc count) xs = take width xs ∷ cut width count (drop width xs)
