-- Names that end in a word: where the last `_` stands, and which word is behind it.
use Rattle.std.specs.Fmt.{digits, digits_onto, digit_glyph, decimal}
use Rattle.std.specs.List.{list_all}
use Rattle.std.specs.Prelude.{if◌then◌else◌}
use Rattle.std.proofs.Common.{◌≡◌, ◌∙◌, ℕ, zero, suc, ◌+◌, ◌/◌, ◌%◌, ◌<◌, ◌==◌, Bool, true, false, not, ◌&&◌, List, [], ◌∷◌, ◌++◌, refl, sym, ap, arith}
use Rattle.std.proofs.lemmas.Bool.Decides.{nat_tests}
use Rattle.plain_lemmas.proofs.Bools.{and-false, and-right}
use Rattle.plain_lemmas.proofs.Lists.{cons-head, cons-tail}
use Rattle.plain_lemmas.proofs.Numbers.{digit_glyph-plain as plain-glyph, eq-itself}

-- no byte is this one
abbrev pub lacks : ℕ → List ℕ → Bool
lacks c bs = list_all (λ b. not (b == c)) bs

has : (c : ℕ) (xs ys : List ℕ) → lacks c (xs ++ c ∷ ys) ≡ false
has c [] ys = ap (λ t. not t && lacks c ys) (eq-itself c)
has c (x ∷ xs) ys = ap (λ t. not (x == c) && t) (has c xs ys) ∙ and-false (not (x == c))

-- what stands before and behind the last byte of a kind
pub last-split : (c : ℕ) (xs ys u v : List ℕ) → lacks c u ≡ true → lacks c v ≡ true → xs ++ c ∷ u ≡ ys ++ c ∷ v → (xs ≡ ys) × (u ≡ v)
last-split c [] [] u v a b e = (refl, cons-tail c c u v e)
last-split c [] (y ∷ ys) u v a b e =
    let behind : u ≡ ys ++ c ∷ v = cons-tail c y u (ys ++ c ∷ v) e in
    let bad : true ≡ false = sym a ∙ ap (lacks c) behind ∙ has c ys v in cc bad
last-split c (x ∷ xs) [] u v a b e =
    let behind : v ≡ xs ++ c ∷ u = cons-tail c x v (xs ++ c ∷ u) (sym e) in
    let bad : true ≡ false = sym b ∙ ap (lacks c) behind ∙ has c xs u in cc bad
last-split c (x ∷ xs) (y ∷ ys) u v a b e =
    let first : x ≡ y = cons-head x y (xs ++ c ∷ u) (ys ++ c ∷ v) e in
    let rest = last-split c xs ys u v a b (cons-tail x y (xs ++ c ∷ u) (ys ++ c ∷ v) e) in
    let same : xs ≡ ys = rest.0 in
    ((λ i. first i ∷ same i), rest.1)

-- and the first
pub first-split : (c : ℕ) (xs ys u v : List ℕ) → lacks c xs ≡ true → lacks c ys ≡ true → xs ++ c ∷ u ≡ ys ++ c ∷ v → (xs ≡ ys) × (u ≡ v)
first-split c [] [] u v a b e = (refl, cons-tail c c u v e)
first-split c [] (y ∷ ys) u v a b e =
    let first : c ≡ y = cons-head c y u (ys ++ c ∷ v) e in
    let bad : false ≡ true = sym (ap (λ t. not t && lacks c ys) (ap (λ z. z == c) (sym first) ∙ eq-itself c)) ∙ b in cc bad
first-split c (x ∷ xs) [] u v a b e =
    let first : x ≡ c = cons-head x c (xs ++ c ∷ u) v e in
    let bad : false ≡ true = sym (ap (λ t. not t && lacks c xs) (ap (λ z. z == c) first ∙ eq-itself c)) ∙ a in cc bad
first-split c (x ∷ xs) (y ∷ ys) u v a b e =
    let first : x ≡ y = cons-head x y (xs ++ c ∷ u) (ys ++ c ∷ v) e in
    let rest = first-split c xs ys u v (and-right (not (x == c)) (lacks c xs) a) (and-right (not (y == c)) (lacks c ys) b) (cons-tail x y (xs ++ c ∷ u) (ys ++ c ∷ v) e) in
    let same : xs ≡ ys = rest.0 in
    ((λ i. first i ∷ same i), rest.1)

-- decimals have digits alone

no-gap : (d : ℕ) → d < 10 → not (48 + d == 95) ≡ true
no-gap d l = grind (arith, nat_tests)

glyph : (d : ℕ) → d < 10 → not (digit_glyph false d == 95) ≡ true
glyph d l = ap (λ z. not (z == 95)) (plain-glyph d l) ∙ no-gap d l

glyph-lacks : (n : ℕ) (acc : List ℕ) → lacks 95 acc ≡ true → lacks 95 (digit_glyph false (n % 10) ∷ acc) ≡ true
glyph-lacks n acc h = let small : n % 10 < 10 = omega arith in ap (λ t. t && lacks 95 acc) (glyph (n % 10) small) ∙ h

digits_lack : (k n : ℕ) (acc : List ℕ) → lacks 95 acc ≡ true → lacks 95 (digits_onto k 10 false n acc) ≡ true
digits_lack zero n acc h = h
digits_lack (suc k) n acc h = go (n / 10 == 0) (glyph-lacks n acc h) (digits_lack k (n / 10) (digit_glyph false (n % 10) ∷ acc) (glyph-lacks n acc h))
  where
    go : (b : Bool) → lacks 95 (digit_glyph false (n % 10) ∷ acc) ≡ true → lacks 95 (digits_onto k 10 false (n / 10) (digit_glyph false (n % 10) ∷ acc)) ≡ true
        → lacks 95 (if b then digit_glyph false (n % 10) ∷ acc else digits_onto k 10 false (n / 10) (digit_glyph false (n % 10) ∷ acc)) ≡ true
    go true here more = here
    go false here more = more

pub decimal-lacks : (n : ℕ) → lacks 95 (decimal n) ≡ true
unfolding digits
decimal-lacks n = digits_lack 64 n [] refl
