-- Runs of bits that words share, words evenly spaced, and numbers by their upper and lower bits.
use Rattle.std.proofs.Common.{◌≡◌, ℕ, ◌+◌, ◌-◌, ◌*◌, ◌/◌, ◌%◌, ◌^◌, ◌<◌, ◌≤◌, ◌==◌, eqb-true, Bool, true, false, ◌&&◌, if◌then◌else◌, get_or, List, length, refl, ap, sym, ◌∙◌, arith}
use Rattle.std.specs.List.{list_any}
use Rattle.std.proofs.Math.Pow.{shr_mono}
use Rattle.std.proofs.lemmas.Nat.{same_from_place, div_below, div-add-mod', mod-mul-add}
use Rattle.std.proofs.lemmas.Bool.{eq-eqb}
use Rattle.std.proofs.lemmas.List.{get_or_default}
use Rattle.std.proofs.lemmas.List.Folds.{list_any_at, list_any_none}
use Rattle.plain_lemmas.proofs.Numbers.{not-number}

-- what lies between two numbers shares the bits that they share
pub between : (k a w b : ℕ) → a ≤ w → w ≤ b → a / 2 ^ k ≡ b / 2 ^ k → w / 2 ^ k ≡ a / 2 ^ k
between k a w b l h e =
    let p : a / 2 ^ k ≤ w / 2 ^ k = shr_mono k l in
    let q : w / 2 ^ k ≤ b / 2 ^ k = shr_mono k h in
    omega arith

-- a number with top bits x and low bits r among words of one run, whose top bits are t
pub run_entry : (p base t x r w : ℕ) → r < p → base + t * p ≤ w → w < base + t * p + p → (x * p + r == w - base) ≡ (if x == t then (r == w - (base + t * p)) else false)
run_entry p base t x r w low a b = by (x == t) refl
  where
    s : ℕ
    s = w - (base + t * p)

    is : w - base ≡ t * p + s
    is = omega arith

    below : s < p
    below = omega arith

    by : (c : Bool) → (x == t) ≡ c → (x * p + r == w - base) ≡ (if c then (r == s) else false)
    by true e = let x_is : x ≡ t = eqb-true x t e in rw (x_is, is) (shifted (t * p) r s)
      where
        shifted : (k a b : ℕ) → (k + a == k + b) ≡ (a == b)
        shifted k a b = grind arith
    by false e = rw is (not-number (x * p + r) (t * p + s) (λ h. let same = same_from_place x r t s p low below h in absurd (cc (e, eq-eqb x t same.0))))

-- some word is y above base exactly where the step divides y
pub any_even : (words : List ℕ) (base p y : ℕ) → 0 < p → y < length words * p → ((i : ℕ) → i < length words → get_or words i 0 ≡ base + i * p)
    → list_any (λ w. y == w - base) words ≡ (y % p == 0)
any_even words base p y some low each = by (y % p == 0) refl
  where
    whole : y / p * p + y % p ≡ y
    whole = div-add-mod' y p

    by : (c : Bool) → (y % p == 0) ≡ c → list_any (λ w. y == w - base) words ≡ c
    by true e =
        let z : y % p ≡ 0 = eqb-true (y % p) 0 e in
        let i : y / p < length words = div_below y p (length words) some low in
        let here = each (y / p) i in
        let q = whole in
        list_any_at (λ w. y == w - base) words (y / p) 0 i (eq-eqb y (get_or words (y / p) 0 - base) (omega (arith, here, q, z)))
    by false e = list_any_none (λ w. y == w - base) words (λ k d l. not-number y (get_or words k d - base) (λ h. absurd (none k d l h e)))
      where
        none : (k d : ℕ) → k < length words → y ≡ get_or words k d - base → (y % p == 0) ≡ false → ⊥
        none k d l h e =
            let here : get_or words k d ≡ base + k * p = at_any k d l in
            let is : y ≡ k * p + 0 = omega (arith, here, h) in
            let z : y % p ≡ 0 = ap (λ n. n % p) is ∙ mod-mul-add k p 0 some in
            absurd (cc (e, eq-eqb (y % p) 0 z))
          where
            at_any : (k d : ℕ) → k < length words → get_or words k d ≡ base + k * p
            at_any k d l = get_or_default words k d 0 l ∙ each k l

-- two numbers are one where their upper and lower bits are
pub crossed : (p q k : ℕ) → 0 < p → ((q / p == k / p) && (q % p == k % p)) ≡ (q == k)
crossed p q k some = by (q == k) refl
  where
    by : (c : Bool) → (q == k) ≡ c → ((q / p == k / p) && (q % p == k % p)) ≡ c
    by true e = let s : q ≡ k = eqb-true q k e in rw (s, eq-eqb (k / p) (k / p) refl, eq-eqb (k % p) (k % p) refl) refl
    by false e = both (q / p == k / p) (q % p == k % p) refl refl
      where
        both : (c d : Bool) → (q / p == k / p) ≡ c → (q % p == k % p) ≡ d → (c && d) ≡ false
        both false d a b = refl
        both true false a b = refl
        both true true a b =
            let u : q / p ≡ k / p = eqb-true (q / p) (k / p) a in
            let v : q % p ≡ k % p = eqb-true (q % p) (k % p) b in
            let s : q ≡ k = sym (div-add-mod' q p) ∙ ap (λ n. n * p + q % p) u ∙ ap (λ n. k / p * p + n) v ∙ div-add-mod' k p in
            absurd (cc (e, eq-eqb q k s))
