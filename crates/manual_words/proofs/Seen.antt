-- Paths, piece by piece.
use Rattle.std.proofs.Common.{◌≡◌, ◌∙◌, ℕ, ◌+◌, ◌<◌, ◌≤◌, ◌==◌, Bool, true, false, not, cond, Option, Some, None, List, [], ◌∷◌, ◌++◌, drop, length, nat_lt, position, take, refl, sym, ap, arith}
use Rattle.std.specs.List.{position_or_len, slice_split}
use Rattle.std.proofs.lemmas.List.Splits.{slice_split_first, slice_split_none}
use Rattle.std.proofs.lemmas.List.Sums.{prefix_len-le-length, fails_before_first}
use Rattle.std.proofs.lemmas.Bool.Decides.{nat_tests}
use Rattle.manual_words.specs.Names.{is_own, next_index, place_text, seen_from}
use Rattle.word_groups.specs.Paths.{is_dollar, names_and_indices}

found : (xs : List ℕ) (i : ℕ) → position is_dollar xs ≡ Some i → (position_or_len is_dollar xs ≡ i) × (i < length xs)
found xs i e = go (nat_lt (position_or_len is_dollar xs) (length xs)) refl e
  where
    go : (b : Bool) → nat_lt (position_or_len is_dollar xs) (length xs) ≡ b → cond b (Some (position_or_len is_dollar xs)) None ≡ Some i → (position_or_len is_dollar xs ≡ i) × (i < length xs)
    go true low e = let same : position_or_len is_dollar xs ≡ i = cc e in let l : position_or_len is_dollar xs < length xs = grind (arith, nat_tests, low) in (same, omega (arith, l, same))
    go false low e = cc e

missing : (xs : List ℕ) → position is_dollar xs ≡ None → position_or_len is_dollar xs ≡ length xs
missing xs e = go (nat_lt (position_or_len is_dollar xs) (length xs)) refl e
  where
    go : (b : Bool) → nat_lt (position_or_len is_dollar xs) (length xs) ≡ b → cond b (Some (position_or_len is_dollar xs)) None ≡ None → position_or_len is_dollar xs ≡ length xs
    go true low e = cc e
    go false low e = let l : length xs ≤ position_or_len is_dollar xs = grind (arith, nat_tests, low) in let m = prefix_len-le-length (λ x. not (is_dollar x)) xs in omega (arith, l, m)

pub piece_before : (path : List ℕ) (end : ℕ) → position is_dollar path ≡ Some end → names_and_indices path ≡ take end path ∷ names_and_indices (drop (end + 1) path)
piece_before path end e =
    let f = found path end e in
    slice_split_first is_dollar path 0 (omega (arith, f.0, f.1)) ∙ ap (λ i. take i path ∷ slice_split is_dollar (drop (i + 1) path)) f.0

pub last_piece : (path : List ℕ) → position is_dollar path ≡ None → names_and_indices path ≡ path ∷ []
last_piece path e =
    let long = missing path e in
    slice_split_none is_dollar path (λ k d low. fails_before_first is_dollar path k d (omega (arith, long, low)))

pub seen_step : (dotted same first : Bool) (k : ℕ) (own : List (List ℕ)) (piece : List ℕ) (ps qs : List (List ℕ)) (seen : Bool) (next : ℕ) (left : List (List ℕ))
    → qs ≡ piece ∷ ps → seen ≡ is_own same own piece → next ≡ next_index k piece → left ≡ drop 1 own
    → seen_from dotted same first k own qs ≡ place_text dotted first seen k piece ++ seen_from dotted seen false next left ps
seen_step dotted same first k own piece ps qs seen next left e f g h = rw (e, f, g, h) refl

-- how many bytes are left, with one more where a piece is
abbrev pub bytes_in : Option (List ℕ) → ℕ
bytes_in None = 0
bytes_in (Some path) = length path + 1
