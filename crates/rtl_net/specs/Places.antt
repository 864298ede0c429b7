-- What stands under a name.
use Rattle.std.specs.Prelude.{◌≡◌, ℕ, Option, List, is_some, position, bytes_eq}
use Rattle.std.specs.List.{list_any}
use Rattle.std.specs.BTreeMap.{get_by}
use Rattle.std.specs.Cmp.Lexicographic.{slice_cmp}
use Rattle.std.specs.Ordering.{nat_cmp}
use Rattle.rtl_net.specs.declared.names.Names.{Names}

-- the place under a name
abbrev pub place_of : Names → List ℕ → Option ℕ
place_of t n = get_by (λ k. slice_cmp nat_cmp n k.items) t.places

-- each name has its first place in the list
pub record ArePlaces (t : Names) (names : List (List ℕ)) : Type 0 where
  pub at : (n : List ℕ) → place_of t n ≡ position (bytes_eq n) names

-- the names of the list have places, and no others
pub record HasNames (t : Names) (names : List (List ℕ)) : Type 0 where
  pub at : (n : List ℕ) → is_some (place_of t n) ≡ list_any (bytes_eq n) names
