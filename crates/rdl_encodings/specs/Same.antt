-- When two enumerations are one, and lists of which each has one number.
use Rattle.std.specs.Prelude.{ℕ, Bool, ◌&&◌, nat_eq, bytes_eq, cond, List, [], ◌∷◌, ◌++◌, Option}
use Rattle.std.specs.List.{list_any, position_from}
use Rattle.std.specs.Cmp.Lexicographic.{pointwise}
use Rattle.encodings.specs.Encodings.{Enumeration}
use Rattle.rdl_values.specs.Values.{EnumOf}

-- entry by entry the same names and values
abbrev pub same_entries : List (List ℕ × ℕ) → List (List ℕ × ℕ) → Bool
same_entries xs ys = pointwise (λ x y. bytes_eq x.0 y.0 && nat_eq x.1 y.1) xs ys

-- Two are one enumeration where they stand at one place with the same values: a body that is opened with other parameters may have others.
abbrev pub same_enum : EnumOf → EnumOf → Bool
same_enum a b = nat_eq a.place b.place && same_entries a.entries b.entries

-- the number of an enumeration among some that have the number of a field beside them
abbrev pub number_in : List (ℕ × EnumOf) → EnumOf → Option ℕ
number_in ls e = position_from (λ x. same_enum x.1 e) 0 ls

-- one more behind them, where it isn't there yet
abbrev pub with_one : List (ℕ × EnumOf) → ℕ → EnumOf → List (ℕ × EnumOf)
with_one ls i e = cond (list_any (λ x. same_enum x.1 e) ls) ls (ls ++ ((i, e) ∷ []))

-- as documents have it
abbrev pub shown : ℕ × EnumOf → Enumeration
shown x = record { name = x.1.name; place = x.1.place; field = x.0; entries = x.1.entries }
