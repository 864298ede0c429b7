-- No natural name has a lower case letter, and each exact one has.
use Rattle.std.proofs.Common.{◌≡◌, ◌∙◌, ℕ, Bool, true, false, not, ◌&&◌, cond, nat_le, List, [], ◌∷◌, ◌++◌, filter, map, refl, ap, arith}
use Rattle.std.proofs.lemmas.Bool.Decides.{nat_tests}
use Rattle.std.specs.List.{list_all, onto_first, slice_split}
use Rattle.word_groups.specs.Paths.{behind}
use Rattle.c_header.specs.Names.{begins_digit, exact, first_bytes, is_gap, is_word, natural, opened, prefix, spelled, upper, words}
use Rattle.plain_lemmas.proofs.Bools.{and-both_true, and-false, and-left, and-right}

-- no lower case letter
abbrev pub is_high : ℕ → Bool
is_high b = not (nat_le 97 b && nat_le b 122)

abbrev pub high : List ℕ → Bool
high bs = list_all is_high bs

pub high-append : (xs ys : List ℕ) → high xs ≡ true → high ys ≡ true → high (xs ++ ys) ≡ true
high-append [] ys h k = k
high-append (x ∷ xs) ys h k = and-both_true (is_high x) (high (xs ++ ys)) (and-left (is_high x) (high xs) h) (high-append xs ys (and-right (is_high x) (high xs) h) k)

pub low-behind : (xs ys : List ℕ) → high ys ≡ false → high (xs ++ ys) ≡ false
low-behind [] ys h = h
low-behind (x ∷ xs) ys h = ap (λ t. is_high x && t) (low-behind xs ys h) ∙ and-false (is_high x)

pub low-front : (xs ys : List ℕ) → high xs ≡ false → high (xs ++ ys) ≡ false
low-front [] ys h = cc h
low-front (x ∷ xs) ys h = go (is_high x) (λ e. low-front xs ys e) h
  where
    go : (b : Bool) → (high xs ≡ false → high (xs ++ ys) ≡ false) → (b && high xs) ≡ false → (b && high (xs ++ ys)) ≡ false
    go true more e = more e
    go false more e = refl

upper-high : (b : ℕ) → is_high (upper b) ≡ true
upper-high b = grind (arith, nat_tests)

onto-high : (b : ℕ) (ps : List (List ℕ)) → is_high b ≡ true → list_all high ps ≡ true → list_all high (onto_first b ps) ≡ true
onto-high b [] h k = ap (λ t. (t && true) && true) h
onto-high b (p ∷ ps) h k = and-both_true (is_high b && high p) (list_all high ps) (and-both_true (is_high b) (high p) h (and-left (high p) (list_all high ps) k)) (and-right (high p) (list_all high ps) k)

cut-high : (path : List ℕ) → list_all high (slice_split is_gap (map upper path)) ≡ true
cut-high [] = refl
cut-high (b ∷ bs) = go (is_gap (upper b)) (cut-high bs)
  where
    go : (c : Bool) → list_all high (slice_split is_gap (map upper bs)) ≡ true → list_all high (cond c ([] ∷ slice_split is_gap (map upper bs)) (onto_first (upper b) (slice_split is_gap (map upper bs)))) ≡ true
    go true h = h
    go false h = onto-high (upper b) (slice_split is_gap (map upper bs)) (upper-high b) h

some-high : (ps : List (List ℕ)) → list_all high ps ≡ true → list_all high (filter is_word ps) ≡ true
some-high [] h = refl
some-high ([] ∷ ps) h = some-high ps h
some-high ((b ∷ bs) ∷ ps) h = and-both_true (high (b ∷ bs)) (list_all high (filter is_word ps)) (and-left (high (b ∷ bs)) (list_all high ps) h) (some-high ps (and-right (high (b ∷ bs)) (list_all high ps) h))

behind-high : (ps : List (List ℕ)) → list_all high ps ≡ true → high (behind 95 ps) ≡ true
behind-high [] h = refl
behind-high (p ∷ ps) h = high-append p (behind 95 ps) (and-left (high p) (list_all high ps) h) (behind-high ps (and-right (high p) (list_all high ps) h))

words-high : (path : List ℕ) → high (behind 95 (words path)) ≡ true
words-high path = behind-high (words path) (some-high (slice_split is_gap (map upper path)) (cut-high path))

opened-high : (ws : List ℕ) → high ws ≡ true → high (opened ws) ≡ true
opened-high [] h = refl
opened-high (b ∷ bs) h = go (begins_digit bs) (and-right (is_high b) (high bs) h)
  where
    go : (c : Bool) → high bs ≡ true → high (cond c (82 ∷ bs) bs) ≡ true
    go true k = k
    go false k = k

pub prefix-high : (top : List ℕ) → high (prefix top) ≡ true
prefix-high top = opened-high (behind 95 (words (first_bytes top))) (words-high (first_bytes top))

pub natural-high : (begin path : List ℕ) → high begin ≡ true → high (natural begin path) ≡ true
natural-high begin path h = high-append begin (behind 95 (words path)) h (words-high path)

pub exact-low : (begin : List ℕ) (mark : ℕ) (path : List ℕ) → is_high mark ≡ false → high (exact begin mark path) ≡ false
exact-low begin mark path low = low-behind begin (95 ∷ mark ∷ spelled path) (ap (λ t. t && high (spelled path)) low)
