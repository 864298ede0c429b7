-- The names of macros: those of a path as one would write them, and those that tell any two paths apart.
use Rattle.std.specs.Prelude.{ℕ, ◌-◌, ◌==◌, Bool, true, false, ◌&&◌, ◌||◌, cond, nat_le, nat_lt, List, [], ◌∷◌, ◌++◌, bytes_eq, codes, count_by, filter, flat_map, map, take}
use Rattle.std.specs.Char.{is_ascii_digit}
use Rattle.std.specs.List.{slice_split}
use Rattle.word_groups.specs.Paths.{behind}

-- `_`, or `$` between the names of a path
abbrev pub is_gap : ℕ → Bool
is_gap b = (b == 95) || (b == 36)

abbrev pub upper : ℕ → ℕ
upper b = cond (nat_le 97 b && nat_le b 122) (b - 32) b

abbrev pub is_word : List ℕ → Bool
is_word [] = false
is_word (b ∷ bs) = true

-- the words of a name or path: what stands before, between and behind the gaps, in upper case
abbrev pub words : List ℕ → List (List ℕ)
words path = filter is_word (slice_split is_gap (map upper path))

abbrev pub begins_digit : List ℕ → Bool
begins_digit [] = false
begins_digit (b ∷ bs) = is_ascii_digit b

-- words behind `_`, without the first `_` and beginning with a letter
abbrev pub opened : List ℕ → List ℕ
opened [] = codes "R"
opened (b ∷ bs) = cond (begins_digit bs) (82 ∷ bs) bs

-- as much of the top's name as counts
unfoldable pub first_bytes : List ℕ → List ℕ
first_bytes name = take 900 name

-- what each name begins with: the words of the top's name
abbrev pub prefix : (top : List ℕ) → List ℕ
prefix top = opened (behind 95 (words (first_bytes top)))

-- The name as one would write it.
abbrev pub natural : (begin path : List ℕ) → List ℕ
natural begin path = begin ++ behind 95 (words path)

-- a path byte by byte: `_0` is `_`, and `_1` is `$`
abbrev pub spelled_byte : ℕ → List ℕ
spelled_byte b = cond (b == 95) (codes "_0") (cond (b == 36) (codes "_1") (b ∷ []))

abbrev pub spelled : List ℕ → List ℕ
spelled path = flat_map spelled_byte path

-- A lower case letter, which no natural name has, then the path.
abbrev pub exact : (begin : List ℕ) (mark : ℕ) (path : List ℕ) → List ℕ
exact begin mark path = begin ++ 95 ∷ mark ∷ spelled path

-- both names of what a macro is of
pub record Base : Type 0 where
  pub natural : List ℕ
  pub exact : List ℕ

-- more than one of these is the name
abbrev pub is_repeated : List (List ℕ) → List ℕ → Bool
is_repeated names name = nat_lt 1 (count_by (λ n. bytes_eq n name) names)

-- the natural name, where no other one of its kind has it
abbrev pub name_among : (naturals : List (List ℕ)) → Base → List ℕ
name_among naturals x = cond (is_repeated naturals x.natural) x.exact x.natural
