-- Paths of registers and fields, which are names and indices with `$` between them.
use Rattle.std.specs.Prelude.{ℕ, ◌+◌, ◌-◌, ◌*◌, ◌==◌, Bool, not, ◌&&◌, cond, min, nat_lt, List, [], ◌∷◌, ◌++◌, codes, decimal, drop, filter, flat_map, fold, length, map}
use Rattle.std.specs.Char.{is_ascii_digit}
use Rattle.std.specs.List.{list_all, slice_split}

abbrev pub is_dollar : ℕ → Bool
is_dollar b = b == 36

-- what stands before, between and behind the `$`s
abbrev pub names_and_indices : List ℕ → List (List ℕ)
names_and_indices path = slice_split is_dollar path

-- an index is a number, as no name is
abbrev pub is_index : List ℕ → Bool
is_index p = nat_lt 0 (length p) && list_all is_ascii_digit p

-- its number; beyond 99,999,999 it counts as that, and no source has so many registers
abbrev pub with_digit : ℕ → ℕ → ℕ
with_digit n b = min 99999999 (n * 10 + (b - 48))

abbrev pub number_of : List ℕ → ℕ
number_of digits = fold with_digit 0 digits

abbrev pub indices : List ℕ → List ℕ
indices path = map number_of (filter is_index (names_and_indices path))

-- each piece behind a byte
abbrev pub behind : ℕ → List (List ℕ) → List ℕ
behind gap ps = flat_map (λ p. gap ∷ p) ps

abbrev pub is_name : List ℕ → Bool
is_name p = not (is_index p)

-- a path without its indices
abbrev pub names_of : List ℕ → List ℕ
names_of path = drop 1 (behind 36 (filter is_name (names_and_indices path)))

-- what stands behind the last `$`
abbrev pub name_with : List ℕ → ℕ → List ℕ
name_with name b = cond (b == 36) [] (name ++ b ∷ [])

abbrev pub last_name : List ℕ → List ℕ
last_name path = fold name_with [] path

-- Paths as a reader writes them: `uart[2].ctrl` for `uart$2$ctrl`, and `uart[0..3].ctrl` where there are so many.

abbrev pub bracketed : List ℕ → List ℕ → List ℕ
bracketed index [] = codes "[" ++ index ++ codes "]"
bracketed index (n ∷ ns) = codes "[0.." ++ decimal (n - 1) ++ codes "]"

abbrev pub shown_pieces : List (List ℕ) → (lengths : List ℕ) → List ℕ
shown_pieces [] lengths = []
shown_pieces (p ∷ ps) lengths = cond (is_index p) (bracketed p lengths ++ shown_pieces ps (drop 1 lengths)) (46 ∷ p ++ shown_pieces ps lengths)

abbrev pub shown : List ℕ → (lengths : List ℕ) → List ℕ
shown path lengths = drop 1 (shown_pieces (names_and_indices path) lengths)
