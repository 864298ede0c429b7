-- Numbers among those that are marked.
use Rattle.std.specs.Prelude.{◌≡◌, ℕ, suc, ◌<◌, Bool, true, false, cond, List, [], ◌∷◌, length, take, Some, slice_get}

-- how many are marked
abbrev pub marked : List Bool → ℕ
marked [] = 0
marked (true ∷ bs) = suc (marked bs)
marked (false ∷ bs) = marked bs

-- how many marked ones stand before one that is marked; how many there are, for another
abbrev pub rank : List Bool → ℕ → Bool → ℕ
rank bs k b = cond b (marked (take k bs)) (marked bs)

-- Of the first of these, each at its place.
pub record AreRanksTo (bs : List Bool) (to : ℕ) (ns : List ℕ) : Type 0 where
  pub many : length ns ≡ to
  pub each : (k : ℕ) (b : Bool) → k < to → slice_get bs k ≡ Some b → slice_get ns k ≡ Some (rank bs k b)
