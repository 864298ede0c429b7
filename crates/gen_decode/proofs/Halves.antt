-- A range of addresses in halves.
use Rattle.std.proofs.Common.{◌≡◌, ℕ, zero, suc, ◌+◌, ◌-◌, ◌*◌, ◌/◌, ◌%◌, ◌^◌, ◌<◌, ◌≤◌, ◌==◌, Bool, true, false, ◌||◌, if◌then◌else◌, List, [], ◌∷◌, ◌++◌, length, Some, refl, ap, ◌∙◌, arith, inl, inr, ◌⊎◌}
use Rattle.std.specs.List.{list_any, slice_get}
use Rattle.std.specs.List.Sorted.{IsStrictlyIncreasing}
use Rattle.std.proofs.lemmas.List.Folds.{list_any-append}
use Rattle.std.proofs.lemmas.Nat.{mod-pow-add}
use Rattle.std.proofs.Math.Nat.{mod-lt, pow-suc}
use Rattle.plain_lemmas.proofs.Numbers.{below-two as below_two}
use Rattle.rb_base.specs.Bits.{part}
use Rattle.gen_decode.specs.Among.{AreWithin, IsCut}

module _ (p base x y : ℕ) (top : x < 2) (low : y < p) where
  -- an entry of the lower half
  low_entry : (w : ℕ) → base ≤ w → w < base + p → (x * p + y == w - base) ≡ (if x == 1 then false else (y == w - base))
  low_entry w a b = elim (below_two x top) [
    | inl e ↦ let q : x * p + y ≡ y = (let z : x * p ≡ 0 = ap (λ t. t * p) e ∙ omega arith in omega arith) in rw (q, e) refl
    | inr e ↦ let q : x * p + y ≡ p + y = (let z : x * p ≡ p = ap (λ t. t * p) e ∙ omega arith in omega arith) in rw (q, e) (let n : (p + y == w - base) ≡ false = grind arith in n)
  ]

  -- an entry of the upper half
  high_entry : (w : ℕ) → base + p ≤ w → w < base + p + p → (x * p + y == w - base) ≡ (if x == 1 then (y == w - (base + p)) else false)
  high_entry w a b = elim (below_two x top) [
    | inl e ↦ let q : x * p + y ≡ y = (let z : x * p ≡ 0 = ap (λ t. t * p) e ∙ omega arith in omega arith) in rw (q, e) (let n : (y == w - base) ≡ false = grind arith in n)
    | inr e ↦ let q : x * p + y ≡ p + y = (let z : x * p ≡ p = ap (λ t. t * p) e ∙ omega arith in omega arith) in rw (q, e) (let n : (p + y == w - base) ≡ (y == w - (base + p)) = grind arith in n)
  ]

-- two tests of which each element passes both or none
pub any_same : (f g : ℕ → Bool) (words : List ℕ) → ((i w : ℕ) → slice_get words i ≡ Some w → f w ≡ g w) → list_any f words ≡ list_any g words
any_same f g [] h = refl
any_same f g (w ∷ ws) h = ap (λ t. t || list_any f ws) (h 0 w refl) ∙ ap (λ t. g w || t) (any_same f g ws (λ i v e. h (suc i) v e))

-- a test that a condition holds back
any_unless : (c : Bool) (f : ℕ → Bool) (words : List ℕ) → list_any (λ w. if c then false else f w) words ≡ (if c then false else list_any f words)
any_unless true f [] = refl
any_unless false f [] = refl
any_unless true f (w ∷ ws) = any_unless true f ws
any_unless false f (w ∷ ws) = ap (λ t. f w || t) (any_unless false f ws)

pub any_where : (c : Bool) (f : ℕ → Bool) (words : List ℕ) → list_any (λ w. if c then f w else false) words ≡ (if c then list_any f words else false)
any_where true f [] = refl
any_where false f [] = refl
any_where false f (w ∷ ws) = any_where false f ws
any_where true f (w ∷ ws) = ap (λ t. f w || t) (any_where true f ws)

either_half : (c l h : Bool) → ((if c then false else l) || (if c then h else false)) ≡ (if c then h else l)
either_half true l h = refl
either_half false true h = refl
either_half false false h = refl

pub slice_get-left : (left right : List ℕ) (i w : ℕ) → slice_get left i ≡ Some w → slice_get (left ++ right) i ≡ Some w
slice_get-left [] right i w e = cc
slice_get-left (x ∷ xs) right zero w e = e
slice_get-left (x ∷ xs) right (suc i) w e = slice_get-left xs right i w e

pub slice_get-right : (left right : List ℕ) (i w : ℕ) → slice_get right i ≡ Some w → slice_get (left ++ right) (length left + i) ≡ Some w
slice_get-right [] right i w e = let z : 0 + i ≡ i = omega arith in rw z e
slice_get-right (x ∷ xs) right i w e = let z : suc (length xs) + i ≡ suc (length xs + i) = omega arith in rw z (slice_get-right xs right i w e)

-- an entry of both halves is one of the lower or of the upper
pub which_half : (left right : List ℕ) (i w : ℕ) → slice_get (left ++ right) i ≡ Some w
    → ((i < length left) × (slice_get left i ≡ Some w)) ⊎ ((j : ℕ) × (i ≡ length left + j) × (slice_get right j ≡ Some w))
which_half [] right i w e = inr (i, omega arith, e)
which_half (x ∷ xs) right zero w e = inl (omega arith, e)
which_half (x ∷ xs) right (suc i) w e = elim (which_half xs right i w e) [ inl h ↦ inl (let l = h.0 in omega arith, h.1) | inr r ↦ inr (r.0, let q = r.1 in omega arith, r.2) ]

-- twice a power
pub doubled : (half : ℕ) → 2 ^ (half + 1) ≡ 2 ^ half + 2 ^ half
doubled half = let e : half + 1 ≡ suc half = omega arith in let p : 2 ^ suc half ≡ 2 ^ half * 2 = pow-suc 2 half in let q : 2 ^ (half + 1) ≡ 2 ^ suc half = ap (λ n. 2 ^ n) e in omega arith

module _ (words left right : List ℕ) (base half : ℕ) (cut : IsCut words left right (base + 2 ^ half)) (within : AreWithin base (half + 1) words) where
  pub left_within : AreWithin base half left
  left_within = record {
    each = λ i w e. record {
      low = (within.each i w (ap (λ xs. slice_get xs i) cut.whole ∙ slice_get-left left right i w e)).low;
      high = cut.low i w e;
    };
  }

  pub right_within : AreWithin (base + 2 ^ half) half right
  right_within = record {
    each = λ i w e. record {
      low = cut.high i w e;
      high =
          let h = (within.each (length left + i) w (ap (λ xs. slice_get xs (length left + i)) cut.whole ∙ slice_get-right left right i w e)).high in
          let d = doubled half in
          omega arith;
    };
  }

  module _ (x y : ℕ) (top : x < 2) (low : y < 2 ^ half) where
    -- an entry of the range has these low bits
    pub any_halved : list_any (λ w. x * 2 ^ half + y == w - base) words
        ≡ (if x == 1 then list_any (λ w. y == w - (base + 2 ^ half)) right else list_any (λ w. y == w - base) left)
    any_halved =
        let a : list_any (λ w. x * 2 ^ half + y == w - base) left ≡ (if x == 1 then false else list_any (λ w. y == w - base) left)
        = any_same (λ w. x * 2 ^ half + y == w - base) (λ w. if x == 1 then false else (y == w - base)) left (λ i w e. low_entry (2 ^ half) base x y top low w (left_within.each i w e).low (left_within.each i w e).high)
        ∙ any_unless (x == 1) (λ w. y == w - base) left in
        let b : list_any (λ w. x * 2 ^ half + y == w - base) right ≡ (if x == 1 then list_any (λ w. y == w - (base + 2 ^ half)) right else false)
        = any_same (λ w. x * 2 ^ half + y == w - base) (λ w. if x == 1 then (y == w - (base + 2 ^ half)) else false) right (λ i w e. high_entry (2 ^ half) base x y top low w (right_within.each i w e).low (right_within.each i w e).high)
        ∙ any_where (x == 1) (λ w. y == w - (base + 2 ^ half)) right in
        ap (λ xs. list_any (λ w. x * 2 ^ half + y == w - base) xs) cut.whole
        ∙ list_any-append (λ w. x * 2 ^ half + y == w - base) left right
        ∙ ap (λ t. t || list_any (λ w. x * 2 ^ half + y == w - base) right) a
        ∙ ap (λ t. (if x == 1 then false else list_any (λ w. y == w - base) left) || t) b
        ∙ either_half (x == 1) (list_any (λ w. y == w - base) left) (list_any (λ w. y == w - (base + 2 ^ half)) right)

-- a number's low bits by their highest
pub by_top_bit : (v half : ℕ) → v % 2 ^ (half + 1) ≡ part v half half * 2 ^ half + v % 2 ^ half
by_top_bit v half =
    let one : half - half + 1 ≡ 1 = omega arith in
    let e : half + 1 ≡ 1 + half = omega arith in
    rw (one, e) (mod-pow-add v 1 half)

pub top_bit : (v half : ℕ) → part v half half < 2
top_bit v half = let one : half - half + 1 ≡ 1 = omega arith in let h : v / 2 ^ half % 2 < 2 = mod-lt (v / 2 ^ half) (omega arith) in rw one h

-- a rising list of one address
pub single : (words : List ℕ) (base : ℕ) → IsStrictlyIncreasing words → AreWithin base 0 words → 0 < length words → words ≡ base ∷ []
single [] base up h p = absurd (omega arith)
single (w ∷ []) base up h p = let a = h.each 0 w refl in let e : w ≡ base = omega (arith, a.low, a.high) in ap (λ x. x ∷ []) e
single (w ∷ x ∷ ws) base up h p =
    let a = h.each 0 w refl in
    let b = h.each 1 x refl in
    let l : w < x = up 0 (omega arith) in
    absurd (omega (arith, a.low, a.high, b.low, b.high))
