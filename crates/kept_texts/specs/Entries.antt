-- What entries say.
use denote.Ref.{Bor}
use Rattle.std.specs.Prelude.{ℕ, List, map}

-- their names and values
abbrev pub named : List (Bor (List ℕ) × ℕ) → List (List ℕ × ℕ)
named entries = map (λ x. (x.0.now, x.1)) entries
