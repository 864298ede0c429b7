-- The least place at which something is wrong.
use Rattle.std.specs.Prelude.{◌≡◌, ℕ, ◌<◌, ◌≤◌, nat_le, Bool, true, false, if◌then◌else◌, Option, Some, None, List, slice_index}
use Rattle.rb_base.specs.declared.place.Place.{Place}

-- the least place, once one more place is judged
abbrev pub noted : Option Place → (wrong : Bool) → Place → Option Place
noted found false place = found
noted None true place = Some place
noted (Some earlier) true place = if nat_le earlier.0 place.0 then Some earlier else Some place

-- a fact holds at the place, and at none before it
pub record IsLeast (P : ℕ → Type 0) (place : ℕ) : Type 0 where
  pub at : P place
  pub least : (k : ℕ) → P k → place ≤ k

-- the least place at which a fact holds, if it holds at any
abbrev pub Finds : (ℕ → Type 0) → Option Place → Type 0
Finds P None = (k : ℕ) → P k → ⊥
Finds P (Some place) = IsLeast P place.0

-- the fact holds of a numbered thing that stands at the place
abbrev pub Stands : (ℕ → Type 0) → (places : List ℕ) → ℕ → Type 0
Stands F places k = (i : ℕ) × F i × (k ≡ slice_index places i)

-- the same, of a thing with a lower number than this
abbrev pub StandsBefore : (ℕ → Type 0) → (places : List ℕ) → (end : ℕ) → ℕ → Type 0
StandsBefore F places end k = (i : ℕ) × (i < end) × F i × (k ≡ slice_index places i)

-- the lesser of two places
abbrev pub either_found : Option Place → Option Place → Option Place
either_found one None = one
either_found one (Some place) = noted one true place
