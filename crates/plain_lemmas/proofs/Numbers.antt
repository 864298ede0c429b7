-- Lemmas on numbers.
use Rattle.std.proofs.Common.{◌≡◌, ℕ, ◌==◌, true, arith, ◌+◌, suc, ◌∙◌, ◌/◌, ◌%◌, ◌<◌, ◌≤◌, ◌^◌, [], ◌∷◌, length, decimal, ap, false, nat_lt, ◌⊎◌, ◌&&◌, ◌||◌, eqb, min, zero, ◌*◌, nat_le, ◌≢◌, ◌-◌, max, Bool, refl}
use Rattle.std.proofs.lemmas.Bool.Decides.{nat_tests}
use Rattle.std.proofs.lemmas.Fmt.{decimal_step, decimal_digit}
use Rattle.std.proofs.lemmas.List.{length-append}
use Rattle.std.proofs.lemmas.Nat.{pow-add, pow_pos}
use Rattle.std.proofs.Math.Nat.{mod-add-mod, mul-lt-mul_of_pos_right, pow-le-pow_right}
use Rattle.std.specs.Fmt.{digit_glyph}

pub eq-itself : (m : ℕ) → (m == m) ≡ true
eq-itself m = grind arith

pub one-plus : (n : ℕ) → 1 + n ≡ suc n
one-plus n = omega arith

pub decimal-longer : (n : ℕ) → 10 ≤ n → n < 2 ^ 64 → length (decimal n) ≡ length (decimal (n / 10)) + 1
decimal-longer n l b = ap length (decimal_step n l b) ∙ length-append (decimal (n / 10)) ((48 + n % 10) ∷ [])

pub nat_lt-word_false : (n : ℕ) → nat_lt (2 ^ 32) n ≡ false → n ≤ 4294967296
nat_lt-word_false n e = grind (arith, nat_tests)

pub plus-one : (n : ℕ) → n + 1 ≡ suc n
plus-one n = omega arith

pub decimal-one : (n : ℕ) → n < 10 → length (decimal n) ≡ 1
decimal-one n l = ap length (decimal_digit n l)

pub below-two : (x : ℕ) → x < 2 → (x ≡ 0) ⊎ (x ≡ 1)
below-two x h = grind arith

pub before-itself : (l w : ℕ) → (nat_lt l l || (l == l && nat_lt w w)) ≡ false
before-itself l w = grind arith

pub eq-same : (x y : ℕ) → (x == y) ≡ true → x ≡ y
eq-same x y h = grind (arith, h)

pub eq-swapped : (k b : ℕ) → (b == k) ≡ true → b ≡ k
eq-swapped k b e = grind (arith, nat_tests)

pub eqb-swap : (m n : ℕ) → eqb m n ≡ eqb n m
eqb-swap m n = grind (arith, nat_tests)

pub below_next-or_same : (k end : ℕ) → k < end + 1 → (k < end) ⊎ (k ≡ end)
below_next-or_same k end l = grind arith

pub below_next-same_or : (i k : ℕ) → i < k + 1 → (i ≡ k) ⊎ (i < k)
below_next-same_or i k l = grind (arith, l)

pub below-nat_lt : (i j : ℕ) → i < j → nat_lt i j ≡ true
below-nat_lt i j l = grind arith

pub below_next-swapped : (n k : ℕ) → k < n + 1 → (k < n) ⊎ (k ≡ n)
below_next-swapped n k l = grind (arith, l)

pub min-right : (m n : ℕ) → n ≤ m → min m n ≡ n
min-right m n l = grind (arith, l)

pub below_times-positive : (d p k : ℕ) → k < d * p → 0 < p
below_times-positive d zero k l = let e : d * 0 ≡ 0 = omega arith in absurd (omega (arith, l, e))
below_times-positive d (suc p) k l = omega arith

pub most : (a b : ℕ) → a ≤ b → nat_le a b ≡ true
most a b h = grind (arith, nat_tests)

pub same_or_above : (p k : ℕ) → p ≤ k → (k ≡ p) ⊎ (p + 1 ≤ k)
same_or_above p k l = grind arith

pub less : (a b : ℕ) → nat_lt a b ≡ true → a < b
less a b h = grind (arith, nat_tests)

pub at-most : (a b : ℕ) → nat_le a b ≡ true → a ≤ b
at-most a b h = grind (arith, nat_tests)

pub same_or_other : (m n : ℕ) → ((m ≡ n) × ((m == n) ≡ true)) ⊎ ((m ≢ n) × ((m == n) ≡ false))
same_or_other m n = grind arith

pub wrap_down : (a m d : ℕ) → d < m → (a % m + m - d) % m ≡ (a + m - d) % m
wrap_down a m d h =
    let p : a % m + m - d ≡ a % m + (m - d) = omega arith in
    let q : a + (m - d) ≡ a + m - d = omega arith in
    ap (λ n. n % m) p ∙ mod-add-mod a m (m - d) ∙ ap (λ n. n % m) q

pub max_assoc : (x y z : ℕ) → max (max x y) z ≡ max x (max y z)
max_assoc x y z = omega arith

pub differ : (a b : ℕ) → b < a → (a == b) ≡ false
differ a b h = grind arith

pub differ_above : (a b : ℕ) → a < b → (a == b) ≡ false
differ_above a b h = grind arith

pub below_or_from : (k i : ℕ) → (k < i) ⊎ (i ≤ k)
below_or_from k i = grind arith

pub not-number : (a b : ℕ) → (a ≡ b → ⊥) → (a == b) ≡ false
not-number a b differ = go (a == b) refl
  where
    go : (t : Bool) → (a == b) ≡ t → t ≡ false
    go true e = absurd (differ (eq-same a b e))
    go false e = refl

pub fits : (b k : ℕ) → nat_le b k ≡ false → k < b
fits b k e = grind (arith, nat_tests)

pub times_power-below : (x w k u : ℕ) → x < 2 ^ w → w + k ≤ u → x * 2 ^ k < 2 ^ u
times_power-below x w k u l h =
    let p : 2 ^ (w + k) ≤ 2 ^ u = pow-le-pow_right (omega arith) h in
    let e : 2 ^ (w + k) ≡ 2 ^ w * 2 ^ k = pow-add 2 w k in
    let q : x * 2 ^ k < 2 ^ w * 2 ^ k = mul-lt-mul_of_pos_right l (pow_pos k) in
    omega (arith, p, e, q)

pub digit_glyph-plain : (d : ℕ) → d < 10 → digit_glyph false d ≡ 48 + d
digit_glyph-plain d l = grind (arith, nat_tests)
