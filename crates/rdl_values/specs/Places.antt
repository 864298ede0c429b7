-- Places in a list.
use Rattle.std.specs.Prelude.{◌≡◌, ℕ, ◌<◌, ◌≤◌, Bool, true, false, nat_eq, Option, None, Some, MatchOption}
use Rattle.std.specs.BTreeSet.{contains}
use Rattle.std.specs.Ordering.{nat_cmp}
use Rattle.rdl_values.specs.declared.places.Places.{Places}

-- whether a place is among them
abbrev pub has_place : Places → ℕ → Bool
has_place places k = contains nat_cmp places.set k

-- none of them stands from one place on up to another
abbrev pub HasNone : (ℕ → Bool) → ℕ → ℕ → Type 0
HasNone has from upto = (k : ℕ) → from ≤ k → k < upto → has k ≡ false

-- the first of them from a place on, if there is one
abbrev pub IsNextPlace : (ℕ → Bool) → ℕ → Option ℕ → Type 0
IsNextPlace has from o = MatchOption o ((k : ℕ) → from ≤ k → has k ≡ false) (λ at. (from ≤ at) × (has at ≡ true) × HasNone has from at)

-- the place that was found, if one was
abbrev pub is_found : Option ℕ → ℕ → Bool
is_found None k = false
is_found (Some at) k = nat_eq at k
