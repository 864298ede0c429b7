-- The places of groups by the key of their words, as they are looked up.
use Rattle.std.specs.Prelude.{◌≡◌, ℕ, suc, List, [], ◌∷◌, Option, None, Some, cond}
use Rattle.std.specs.BTreeMap.{get_by}
use Rattle.std.specs.Cmp.Lexicographic.{slice_cmp}
use Rattle.std.specs.Option.{option_map}
use Rattle.std.specs.Ordering.{nat_cmp}
use Rattle.word_groups.specs.declared.places.Places.{Places}
use Rattle.word_groups.specs.declared.entries.Entry.{Entry}
use Rattle.word_groups.specs.Arrays.{has_key}

abbrev pub place_in : Places → List ℕ → Option ℕ
place_in p key = get_by (λ k. slice_cmp nat_cmp key k.now) p.places

-- the place of the first group that has the key
abbrev pub place_of : List (List Entry) → List ℕ → Option ℕ
place_of [] key = None
place_of (g ∷ gs) key = cond (has_key key g) (Some 0) (option_map suc (place_of gs key))

abbrev pub ArePlacesOf : List (List Entry) → Places → Type 0
ArePlacesOf gs p = (key : List ℕ) → place_in p key ≡ place_of gs key
