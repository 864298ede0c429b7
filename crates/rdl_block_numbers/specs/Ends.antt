-- Lists one behind the other, by where each ends.
use Rattle.std.specs.Prelude.{ℕ, zero, suc, ◌-◌, ◌≤◌, List, [], ◌∷◌, take, drop}

-- the parts that end at these places, where the first starts at another
abbrev pub cut : ℕ → List ℕ → List ℕ → List (List ℕ)
cut from [] numbers = []
cut from (end ∷ ends) numbers = take (end - from) (drop from numbers) ∷ cut end ends numbers

-- where the part of a number starts
abbrev pub start_at : ℕ → List ℕ → ℕ → ℕ
start_at from ends zero = from
start_at from [] (suc k) = from
start_at from (end ∷ ends) (suc k) = start_at end ends k

-- none of these places lies before the one in front of it, nor past a last one
abbrev pub Rises : ℕ → List ℕ → ℕ → Type 0
Rises from [] last = from ≤ last
Rises from (end ∷ ends) last = (from ≤ end) × Rises end ends last
