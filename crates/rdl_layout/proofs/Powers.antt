-- The least power of two that is at least a number.
use Rattle.std.proofs.Common.{◌≡◌, ◌∙◌, ℕ, zero, suc, ◌+◌, ◌-◌, ◌/◌, ◌^◌, ◌<◌, ◌≤◌, true, false, ◌⊎◌, inl, inr, Option, None, Some, refl, ap, sym, subst, arith}
use Rattle.std.specs.Int.{IsNextPowerOfTwo}
use Rattle.std.specs.Option.{SomeIff, MatchOption, IfSome}
use Rattle.std.proofs.Math.Nat.{two-pow-succ}
use Rattle.std.proofs.lemmas.Bool.Decides.{nat_tests}
use Rattle.rdl_layout.specs.Rounding.{IsLeastFrom, holds, up}
use Rattle.rdl_layout.proofs.Least.{power_is_least}

more-power : (i k : ℕ) → 2 ^ i ≤ 2 ^ (i + k)
more-power i zero = let e : i + 0 ≡ i = omega arith in rw e (omega arith)
more-power i (suc k) = let h = more-power i k in let t = two-pow-succ (i + k) in let e : i + suc k ≡ suc (i + k) = omega arith in rw e (omega (arith, h, t))

pub power-le : (i j : ℕ) → i ≤ j → 2 ^ i ≤ 2 ^ j
power-le i j l = let e : i + (j - i) ≡ j = omega (arith, l) in subst (λ n. 2 ^ i ≤ 2 ^ n) e (more-power i (j - i))

passing : (n i : ℕ) → holds n i ≡ true → n ≤ 2 ^ i
passing n i h = grind (arith, nat_tests)

failing : (n i : ℕ) → holds n i ≡ false → 2 ^ i < n
failing n i h = grind (arith, nat_tests)

pub up-from : (n : ℕ) → n ≤ up n
up-from n = let p = power_is_least n in let h = passing n p.0 p.2.passes in let e = p.1 in omega (arith, h, e)

-- no power of two of 128 bits is at least so much
too-large : (n : ℕ) → 2 ^ 127 < n → up n < 2 ^ 128 → ⊥
too-large n l h = by (split (power_is_least n).0)
  where
    split : (i : ℕ) → (i ≤ 127) ⊎ (128 ≤ i)
    split i = grind arith

    by : ((power_is_least n).0 ≤ 127) ⊎ (128 ≤ (power_is_least n).0) → ⊥
    by (inl m) = let p = power-le (power_is_least n).0 127 m in let e = (power_is_least n).1 in let f = up-from n in omega (arith, l, p, e, f)
    by (inr m) = let p = power-le 128 (power_is_least n).0 m in let e = (power_is_least n).1 in omega (arith, h, p, e)

next-is-up : (n p : ℕ) → IsNextPowerOfTwo n p → p ≡ up n
next-is-up n p ((j, is), from, half) = by (split j (power_is_least n).0)
  where
    split : (j i : ℕ) → (j < i) ⊎ (i < j) ⊎ (j ≡ i)
    split j i = grind arith

    least : IsLeastFrom 0 (holds n) (power_is_least n).0
    least = (power_is_least n).2

    below : j < (power_is_least n).0 → ⊥
    below l = let f = failing n j (least.none_before j (omega arith) l) in omega (arith, f, from, is)

    before : (j i : ℕ) → i < j → (k : ℕ) × (j ≡ suc k) × (i ≤ k)
    before zero i l = absurd (omega (arith, l))
    before (suc k) i l = (k, refl, omega (arith, l))

    above : (power_is_least n).0 < j → ⊥
    above l =
        let b = before j (power_is_least n).0 l in
        let p' = power-le (power_is_least n).0 b.0 b.2 in
        let t = two-pow-succ b.0 in
        let e : 2 ^ j ≡ 2 ^ suc b.0 = ap (λ k. 2 ^ k) b.1 in
        let pass = passing n (power_is_least n).0 least.passes in
        let some = power-le 0 (power_is_least n).0 (omega arith) in
        let one : 2 ^ 0 ≡ 1 = refl in
        let d : p / 2 ≡ 2 ^ b.0 = omega (arith, is, e, t) in
        omega (arith, half, d, p', pass, some, one)

    by : (j < (power_is_least n).0) ⊎ ((power_is_least n).0 < j) ⊎ (j ≡ (power_is_least n).0) → p ≡ up n
    by (inl l) = absurd (below l)
    by (inr (inl l)) = absurd (above l)
    by (inr (inr e)) = is ∙ (ap (λ k. 2 ^ k) e ∙ sym (power_is_least n).1)

-- what std's rounding gives
pub up-given : (n : ℕ) (o : Option ℕ) → ((p : ℕ) → o ≡ Some p → p < 2 ^ 128) → MatchOption o (2 ^ 127 < n) (IsNextPowerOfTwo n) → SomeIff o (up n < 2 ^ 128) (up n)
up-given n None fits h = too-large n h
up-given n (Some p) fits h = let e = next-is-up n p h in let f = fits p refl in (omega (arith, e, f), e)

pub up-some : (n : ℕ) (o : Option ℕ) → MatchOption o (2 ^ 127 < n) (IsNextPowerOfTwo n) → IfSome o (λ p. 0 < p)
up-some n None h = tt
up-some n (Some p) h = let s = power-le 0 h.0.0 (omega arith) in let one : 2 ^ 0 ≡ 1 = refl in let e = h.0.1 in omega (arith, s, one, e)
