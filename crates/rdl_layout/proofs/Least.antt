-- Rounding gives the least multiple and the least power of two.
use Rattle.std.proofs.Common.{◌≡◌, ◌∙◌, ℕ, zero, suc, ◌+◌, ◌-◌, ◌*◌, ◌/◌, ◌%◌, ◌^◌, ◌<◌, ◌≤◌, ◌==◌, Bool, true, false, ◌⊎◌, inl, inr, refl, ap, sym, subst, arith, le_of_lt}
use Rattle.std.proofs.Math.Nat.{two-pow-succ, mul-mod_right, div-add-mod, mod-lt, mod-eq_of_lt, mod_self, mul-le-mul_left}
use Rattle.std.proofs.lemmas.Bool.{eq-eqb, le-leb}
use Rattle.std.proofs.lemmas.Bool.Decides.{nat_tests}
use Rattle.plain_lemmas.proofs.Bools.{false-of_not_true as refute}
use Rattle.rdl_layout.specs.Rounding.{IsLeastFrom, IsLeastPower, is_multiple, multiple_from, holds, doubled, up}

is_zero : (k : ℕ) → (k == 0) ≡ true → k ≡ 0
is_zero k e = grind (arith, nat_tests)

-- no multiple stands between n and the next multiple
between : (m n y : ℕ) → 0 < n % m → n ≤ y → y < m * (n / m + 1) → is_multiple m y ≡ false
between m n y some l below = refute _ (λ e. go (is_zero (y % m) e))
  where
    go : y % m ≡ 0 → ⊥
    go whole = by (split (y / m) (n / m))
      where
        of_y : m * (y / m) + y % m ≡ y
        of_y = div-add-mod y m

        of_n : m * (n / m) + n % m ≡ n
        of_n = div-add-mod n m

        split : (q d : ℕ) → (q ≤ d) ⊎ (d + 1 ≤ q)
        split q d = grind arith

        by : (y / m ≤ n / m) ⊎ (n / m + 1 ≤ y / m) → ⊥
        by (inl h) = let g = mul-le-mul_left m h in omega (arith, of_y, of_n, whole, some, l, g)
        by (inr h) = let g = mul-le-mul_left m h in omega (arith, of_y, whole, below, g)

-- a multiple stands within the next m numbers
pub multiple_is_least : (m n : ℕ) → 0 < m → IsLeastFrom n (is_multiple m) (multiple_from m n)
multiple_is_least m n l = by (n % m) refl
  where
    whole : m * (n / m) + n % m ≡ n
    whole = div-add-mod n m

    below : n % m < m
    below = mod-lt n l

    here : n % m ≡ 0 → IsLeastFrom n (is_multiple m) n
    here e = record { from = omega arith; passes = eq-eqb _ _ e; none_before = λ y c d. absurd (omega (arith, c, d)) }

    next : 0 < n % m → IsLeastFrom n (is_multiple m) (m * (n / m + 1))
    next some = record { from = omega (arith, whole, below); passes = eq-eqb _ _ (mul-mod_right m (n / m + 1)); none_before = λ y c d. between m n y some c d }

    by : (r : ℕ) → n % m ≡ r → IsLeastFrom n (is_multiple m) (n + (m - n % m) % m)
    by zero e =
        let all : m - n % m ≡ m = omega (arith, e) in
        let left : (m - n % m) % m ≡ 0 = ap (λ k. k % m) all ∙ mod_self m in
        let at : n + (m - n % m) % m ≡ n = omega (arith, left) in
        subst (IsLeastFrom n (is_multiple m)) (sym at) (here e)
    by (suc r) e =
        let less : m - n % m < m = omega (arith, e, below) in
        let left : (m - n % m) % m ≡ m - n % m = mod-eq_of_lt less in
        let at : n + (m - n % m) % m ≡ m * (n / m + 1) = omega (arith, left, whole, below) in
        subst (IsLeastFrom n (is_multiple m)) (sym at) (next (omega (arith, e)))

-- n is below 2 to the n
below_power : (n : ℕ) → n < 2 ^ n
below_power zero = omega arith
below_power (suc n) = omega (arith, below_power n, two-pow-succ n)

up_to_next : (n i : ℕ) → ((j : ℕ) → j < i → holds n j ≡ false) → holds n i ≡ false → (j : ℕ) → j < i + 1 → holds n j ≡ false
up_to_next n i before last j l = by (split j i l)
  where
    split : (j i : ℕ) → j < i + 1 → (j ≡ i) ⊎ (j < i)
    split j i l = grind arith

    by : (j ≡ i) ⊎ (j < i) → holds n j ≡ false
    by (inl e) = subst (λ k. holds n k ≡ false) (sym e) last
    by (inr h) = before j h

doubled_least : (k n i : ℕ) → ((j : ℕ) → j < i → holds n j ≡ false) → n ≤ 2 ^ (i + k) → IsLeastPower n (doubled k n (2 ^ i))
doubled_least zero n i before l = (i, refl, record { from = omega arith; passes = le-leb n (2 ^ i) (subst (λ e. n ≤ 2 ^ e) (omega arith) l); none_before = λ j c d. before j d })
doubled_least (suc k) n i before l = by (holds n i) refl (λ h. doubled_least k n (i + 1) (up_to_next n i before h) (subst (λ e. n ≤ 2 ^ e) (omega arith) l))
  where
    twice : 2 ^ (i + 1) ≡ 2 * 2 ^ i
    twice = let e : i + 1 ≡ suc i = omega arith in ap (λ k. 2 ^ k) e ∙ omega (arith, two-pow-succ i)

    by : (b : Bool) → holds n i ≡ b → (holds n i ≡ false → IsLeastPower n (doubled k n (2 ^ (i + 1)))) → IsLeastPower n (doubled (suc k) n (2 ^ i))
    by true e later = rw e (i, refl, record { from = omega arith; passes = e; none_before = λ j c d. before j d })
    by false e later = rw e (subst (λ p. IsLeastPower n (doubled k n p)) twice (later e))

pub power_is_least : (n : ℕ) → IsLeastPower n (up n)
power_is_least n = doubled_least n n 0 (λ j l. absurd (omega (arith, l))) (subst (λ e. n ≤ 2 ^ e) (omega arith) (le_of_lt (below_power n)))
