-- The first line of a text, and the first word of a line.
use Rattle.std.proofs.Common.{◌≡◌, ℕ, zero, suc, ◌+◌, ◌-◌, ◌<◌, ◌≤◌, ◌==◌, Bool, true, false, not, cond, Some, None, List, [], ◌∷◌, filter, get_or, length, map, nat_lt, position, add-one, take, drop, refl, ap, sym, ◌∙◌, arith}
use Rattle.std.specs.List.{position_or_len, slice_split}
use Rattle.std.proofs.lemmas.List.{drop_all, length-take}
use Rattle.std.proofs.lemmas.List.Splits.{slice_split-cons_yes, slice_split_first, slice_split_none}
use Rattle.std.proofs.lemmas.List.Sums.{prefix_len-le-length, fails_before_first, passes_at_first}
use Rattle.std.proofs.lemmas.Bool.Decides.{nat_tests}
use Rattle.std.proofs.Math.Seq.{drop-cons}
use Rattle.drive_lang.specs.Lines.{bare, is_blank, lines_of, words_of}
use Rattle.plain_lemmas.proofs.Lists.{take-rest as past}

module _ {X : Type 0} (p : X → Bool) where
  -- a place that is found, or none
  pub found : (xs : List X) (i : ℕ) → position p xs ≡ Some i → (position_or_len p xs ≡ i) × (i < length xs)
  found xs i e = go (nat_lt (position_or_len p xs) (length xs)) refl e
    where
      go : (b : Bool) → nat_lt (position_or_len p xs) (length xs) ≡ b → cond b (Some (position_or_len p xs)) None ≡ Some i → (position_or_len p xs ≡ i) × (i < length xs)
      go true low e = let same : position_or_len p xs ≡ i = cc e in let l : position_or_len p xs < length xs = grind (arith, nat_tests, low) in (same, omega (arith, l, same))
      go false low e = cc e

  pub missing : (xs : List X) → position p xs ≡ None → position_or_len p xs ≡ length xs
  missing xs e = go (nat_lt (position_or_len p xs) (length xs)) refl e
    where
      go : (b : Bool) → nat_lt (position_or_len p xs) (length xs) ≡ b → cond b (Some (position_or_len p xs)) None ≡ None → position_or_len p xs ≡ length xs
      go true low e = cc e
      go false low e = let l : length xs ≤ position_or_len p xs = grind (arith, nat_tests, low) in let m = prefix_len-le-length (λ x. not (p x)) xs in omega (arith, l, m)

-- all that stands past a place

-- Lines

is_feed : ℕ → Bool
is_feed b = b == 10

pub line_before : (text : List ℕ) (end : ℕ) → position (λ b. b == 10) text ≡ Some end → lines_of text ≡ bare (take end text) ∷ lines_of (drop (end + 1) text)
line_before text end e =
    let f = found (λ b. b == 10) text end e in
    ap (map bare) (slice_split_first (λ b. b == 10) text 0 (omega (arith, f.0, f.1))) ∙ ap (λ i. bare (take i text) ∷ lines_of (drop (i + 1) text)) f.0

pub last_line : (text : List ℕ) → position (λ b. b == 10) text ≡ None → lines_of text ≡ bare text ∷ []
last_line text e =
    let long = missing (λ b. b == 10) text e in
    ap (map bare) (slice_split_none (λ b. b == 10) text (λ k d low. fails_before_first (λ b. b == 10) text k d (omega (arith, long, low))))

-- Words

is_some : List ℕ → Bool
is_some word = not (length word == 0)

not_back : (b c : Bool) → not b ≡ c → b ≡ not c
not_back true c e = ap not e
not_back false c e = ap not e

-- a blank in front
blank_first : (b : ℕ) (line : List ℕ) → is_blank b ≡ true → words_of (b ∷ line) ≡ words_of line
blank_first b line e = ap (filter (λ word. not (length word == 0))) (slice_split-cons_yes is_blank b line e)

-- some blanks in front
blanks_first : (line : List ℕ) (n : ℕ) → n ≤ length line → ((k : ℕ) → k < n → is_blank (get_or line k 0) ≡ true) → words_of line ≡ words_of (drop n line)
blanks_first line zero low blank = refl
blanks_first [] (suc n) low blank = refl
blanks_first (b ∷ line) (suc n) low blank = blank_first b line (blank 0 (omega arith)) ∙ blanks_first line n (omega (arith, low)) (λ k l. blank (suc k) (omega (arith, l)))

pub no_word : (line : List ℕ) → position (λ b. not (is_blank b)) line ≡ None → words_of line ≡ []
no_word line e =
    let long = missing (λ b. not (is_blank b)) line e in
    blanks_first line (length line) (omega arith) (λ k low. not_back (is_blank (get_or line k 0)) false (fails_before_first (λ b. not (is_blank b)) line k 0 (omega (arith, long, low))))
    ∙ ap words_of (drop_all (length line) line (omega arith))

pub from_word : (line : List ℕ) (start : ℕ) → position (λ b. not (is_blank b)) line ≡ Some start → words_of line ≡ words_of (drop start line)
from_word line start e =
    let f = found (λ b. not (is_blank b)) line start e in
    blanks_first line start (omega (arith, f.1)) (λ k low. not_back (is_blank (get_or line k 0)) false (fails_before_first (λ b. not (is_blank b)) line k 0 (omega (arith, f.0, low))))

-- what stands there begins a word
pub begins : (line : List ℕ) (start : ℕ) → position (λ b. not (is_blank b)) line ≡ Some start → (start < length line) × (is_blank (get_or line start 0) ≡ false)
begins line start e =
    let f = found (λ b. not (is_blank b)) line start e in
    (f.1, not_back (is_blank (get_or line start 0)) true (ap (λ i. not (is_blank (get_or line i 0))) (sym f.0) ∙ passes_at_first (λ b. not (is_blank b)) line 0 (omega (arith, f.0, f.1))))

-- a word in front of others
some_first : (word : List ℕ) (parts : List (List ℕ)) → 0 < length word → filter (λ w. not (length w == 0)) (word ∷ parts) ≡ word ∷ filter (λ w. not (length w == 0)) parts
some_first [] parts some = absurd (omega (arith, some))
some_first (b ∷ bs) parts some = let e : (length (b ∷ bs) == 0) ≡ false = grind (arith, nat_tests) in rw e refl

pub word_before : (rest : List ℕ) (end : ℕ) → 0 < length rest → is_blank (get_or rest 0 0) ≡ false → position is_blank rest ≡ Some end → words_of rest ≡ take end rest ∷ words_of (drop end rest)
word_before rest end some first e =
    let f = found is_blank rest end e in
    let blank : is_blank (get_or rest end 0) ≡ true = ap (λ i. is_blank (get_or rest i 0)) (sym f.0) ∙ passes_at_first is_blank rest 0 (omega (arith, f.0, f.1)) in
    let long : 0 < end = positive end blank in
    let at_blank : drop end rest ≡ get_or rest end 0 ∷ drop (end + 1) rest = rw (drop-cons rest end 0 f.1, add-one) refl in
    let whole : words_of rest ≡ take end rest ∷ words_of (drop (end + 1) rest) =
    ap (filter (λ w. not (length w == 0))) (slice_split_first is_blank rest 0 (omega (arith, f.0, f.1)) ∙ ap (λ i. take i rest ∷ slice_split is_blank (drop (i + 1) rest)) f.0)
    ∙ some_first (take end rest) (slice_split is_blank (drop (end + 1) rest)) (omega (arith, length-take end rest, f.1, long)) in
    whole ∙ ap (λ ws. take end rest ∷ ws) (sym (ap words_of at_blank ∙ blank_first (get_or rest end 0) (drop (end + 1) rest) blank))
  where
    positive : (n : ℕ) → is_blank (get_or rest n 0) ≡ true → 0 < n
    positive zero b = let bad : false ≡ true = sym first ∙ b in cc bad
    positive (suc n) b = omega arith

pub last_word : (rest : List ℕ) → 0 < length rest → position is_blank rest ≡ None → words_of rest ≡ rest ∷ []
last_word rest some e =
    let long = missing is_blank rest e in
    ap (filter (λ w. not (length w == 0))) (slice_split_none is_blank rest (λ k d low. fails_before_first is_blank rest k d (omega (arith, long, low)))) ∙ some_first rest [] some
