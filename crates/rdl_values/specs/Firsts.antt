-- The first places of names in a list.
use Rattle.std.specs.Prelude.{◌≡◌, ℕ, Option, List, is_some, bytes_eq}
use Rattle.std.specs.List.{list_any, position_from}
use Rattle.std.specs.BTreeMap.{get_by}
use Rattle.std.specs.Cmp.Lexicographic.{slice_cmp}
use Rattle.std.specs.Ordering.{nat_cmp}
use Rattle.rdl_values.specs.declared.firsts.Firsts.{Firsts}

-- the place under a name
abbrev pub place_of : Firsts → List ℕ → Option ℕ
place_of t n = get_by (λ k. slice_cmp nat_cmp n k.now) t.places

-- each name has its first place in the list
pub record AreFirsts (t : Firsts) (names : List (List ℕ)) : Type 0 where
  pub at : (n : List ℕ) → place_of t n ≡ position_from (λ m. bytes_eq m n) 0 names

-- the names of the list have places, and no others
pub record HasNames (t : Firsts) (names : List (List ℕ)) : Type 0 where
  pub at : (n : List ℕ) → is_some (place_of t n) ≡ list_any (λ m. bytes_eq m n) names
