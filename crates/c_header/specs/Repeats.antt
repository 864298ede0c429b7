-- Which names stand in a list, and which of them more than once, as it is looked up.
use Rattle.std.specs.Prelude.{◌≡◌, ℕ, zero, suc, Bool, true, false, List, Option, None, Some, bytes_eq, count_by}
use Rattle.std.specs.BTreeMap.{get_by}
use Rattle.std.specs.Cmp.Lexicographic.{slice_cmp}
use Rattle.std.specs.Ordering.{nat_cmp}
use Rattle.c_header.specs.declared.repeats.Seen.{Seen}

abbrev pub seen_in : Seen → List ℕ → Option Bool
seen_in s name = get_by (λ k. slice_cmp nat_cmp name k.now) s.names

-- not seen, seen once, or more than once
abbrev pub times : ℕ → Option Bool
times zero = None
times (suc zero) = Some false
times (suc (suc n)) = Some true

abbrev pub IsSeenOf : List (List ℕ) → Seen → Type 0
IsSeenOf names s = (name : List ℕ) → seen_in s name ≡ times (count_by (λ n. bytes_eq n name) names)
