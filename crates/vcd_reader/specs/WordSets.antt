-- Where words stand in a list.
use Rattle.std.specs.Prelude.{◌≡◌, ℕ, List}
use Rattle.std.specs.List.{position}
use Rattle.std.specs.Str.{bytes_eq}
use Rattle.std.specs.BTreeMap.{BTreeMap, get_by}
use Rattle.std.specs.Cmp.Lexicographic.{slice_cmp}
use Rattle.std.specs.Ordering.{nat_cmp}
use denote.Ref.{Bor}

-- each word of the list has its first place there, and no other word has one
abbrev pub AreTheirPlaces : BTreeMap (Bor (List ℕ)) ℕ → List (List ℕ) → Type 0
AreTheirPlaces places words = (word : List ℕ) → get_by (λ k. slice_cmp nat_cmp word k.now) places ≡ position (bytes_eq word) words
