-- Numbers of so many bits.
use Rattle.std.proofs.Common.{◌≡◌, ℕ, ◌+◌, ◌*◌, ◌-◌, ◌%◌, ◌^◌, ◌<◌, ◌≤◌, ap, sym, ◌∙◌, arith}
use Rattle.std.proofs.Math.Nat.{mod-eq_of_lt, pow-le-pow_right, mul-add-mod_self_right, add-mul-mod_self_right}
use Rattle.std.proofs.Math.Pow.{mod-mod-pow}
use Rattle.std.proofs.lemmas.Nat.{pow-add, pow_pos}

pub below_wide : (bits n w : ℕ) → n < 2 ^ bits → bits ≤ w → n < 2 ^ w
below_wide bits n w small wide = let more : 2 ^ bits ≤ 2 ^ w = pow-le-pow_right (omega arith) wide in omega (arith, more, small)

regroup : (x y z low : ℕ) → x * (y * z) + low ≡ x * y * z + low
regroup x y z low = grind arith

-- a number that is shifted out of sight
pub joined_wide : (bits high low w : ℕ) → low < 2 ^ bits → bits ≤ w → low ≡ (high * 2 ^ w + low) % 2 ^ bits
joined_wide bits high low w small wide =
    let is : w ≡ w - bits + bits = omega (arith, wide) in
    let power : 2 ^ w ≡ 2 ^ (w - bits) * 2 ^ bits = ap (λ k. 2 ^ k) is ∙ pow-add 2 (w - bits) bits in
    sym (ap (λ p. (high * p + low) % 2 ^ bits) power
    ∙ (ap (λ n. n % 2 ^ bits) (regroup high (2 ^ (w - bits)) (2 ^ bits) low)
    ∙ (mul-add-mod_self_right (high * 2 ^ (w - bits)) (2 ^ bits) low ∙ mod-eq_of_lt small)))

-- the lowest bits of a number's lowest bits
low_bits : (bits n w : ℕ) → w ≤ bits → n % 2 ^ bits % 2 ^ w ≡ n % 2 ^ w
low_bits bits n w narrow =
    let is : bits - w + w ≡ bits = omega (arith, narrow) in
    ap (λ k. n % 2 ^ k % 2 ^ w) (sym is) ∙ mod-mod-pow n (bits - w) w

pub sum_low : (a b w : ℕ) → w ≤ 128 → (a + b) % 2 ^ 128 % 2 ^ w ≡ (a + b) % 2 ^ w
sum_low a b w narrow = low_bits 128 (a + b) w narrow

-- a difference modulo a power is one modulo a greater one
apart : (a b m k : ℕ) → b < m → a + (k + 1) * m - b ≡ (a + m - b) + k * m
apart a b m k low = grind arith

pub difference_low : (a b w : ℕ) → w ≤ 128 → b < 2 ^ w → (a + 2 ^ 128 - b) % 2 ^ 128 % 2 ^ w ≡ (a + 2 ^ w - b) % 2 ^ w
difference_low a b w narrow low =
    let is : 128 ≡ 128 - w + w = omega arith in
    let power : 2 ^ 128 ≡ 2 ^ (128 - w) * 2 ^ w = ap (λ k. 2 ^ k) is ∙ pow-add 2 (128 - w) w in
    let some : 0 < 2 ^ (128 - w) = pow_pos (128 - w) in
    let one : 2 ^ (128 - w) ≡ 2 ^ (128 - w) - 1 + 1 = omega (arith, some) in
    low_bits 128 (a + 2 ^ 128 - b) w narrow
    ∙ (ap (λ p. (a + p - b) % 2 ^ w) (power ∙ ap (λ k. k * 2 ^ w) one)
    ∙ (ap (λ n. n % 2 ^ w) (apart a b (2 ^ w) (2 ^ (128 - w) - 1) low) ∙ add-mul-mod_self_right (a + 2 ^ w - b) (2 ^ (128 - w) - 1) (2 ^ w)))

-- a concatenation of at most 128 bits
pub joined_small : (x y m n : ℕ) → x < 2 ^ m → y < 2 ^ n → m + n ≤ 128 → (x * 2 ^ n + y) % 2 ^ 128 % 2 ^ (m + n) ≡ x * 2 ^ n + y
joined_small x y m n p q narrow =
    let power = pow-add 2 m n in
    let more : 2 ^ (m + n) ≤ 2 ^ 128 = pow-le-pow_right (omega arith) narrow in
    let small : x * 2 ^ n + y < 2 ^ m * 2 ^ n = less_of x y (2 ^ m) (2 ^ n) p q in
    ap (λ k. k % 2 ^ (m + n)) (mod-eq_of_lt (omega (arith, small, more, power))) ∙ mod-eq_of_lt (omega (arith, small, power))
  where
    less_of : (a b c d : ℕ) → a < c → b < d → a * d + b < c * d
    less_of a b c d p q = grind arith
