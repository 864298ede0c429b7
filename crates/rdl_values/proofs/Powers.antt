-- Powers whose exponent is large.
use Rattle.std.proofs.Common.{ℕ, zero, suc, ◌≡◌, ◌∙◌, ◌*◌, ◌/◌, ◌^◌, ◌<◌, ◌≤◌, arith}
use Rattle.std.proofs.Math.Nat.{pow-zero, pow-suc, pow-le-pow_left, mul-one, mul-zero, div-eq_of_lt, mul-le-mul_right}
use Rattle.std.proofs.Math.Pow.{pow_mono}

pub pow_large : (m n : ℕ) → 2 ≤ m → 64 ≤ n → 2 ^ 64 ≤ m ^ n
pow_large m n two large =
    let more : 2 ^ 64 ≤ 2 ^ n = pow_mono large in
    omega (arith, pow-le-pow_left two n)

one-pow : (n : ℕ) → 1 ^ n ≡ 1
one-pow zero = pow-zero 1
one-pow (suc n) = pow-suc 1 n ∙ mul-one (1 ^ n) ∙ one-pow n

-- 0 and 1 are their own powers
pub pow-small : (m n : ℕ) → m < 2 → 0 < n → m ^ n ≡ m
pow-small m zero small some = absurd (omega arith)
pow-small zero (suc n) small some = pow-suc 0 n ∙ mul-zero (0 ^ n)
pow-small (suc zero) (suc n) small some = one-pow (suc n)
pow-small (suc (suc m)) (suc n) small some = absurd (omega arith)

-- nothing is left of a number that is shifted down by 64 or more
pub div-pow_large : (m n : ℕ) → m < 2 ^ 64 → 64 ≤ n → m / 2 ^ n ≡ 0
div-pow_large m n fits large =
    let more : 2 ^ 64 ≤ 2 ^ n = pow_mono large in
    div-eq_of_lt (omega arith)

-- a number that is not 0 and is shifted up is no less than the power of two
pub pow-le-shl : (m n : ℕ) → 0 < m → 2 ^ n ≤ m * 2 ^ n
pow-le-shl m n some = omega (arith, mul-le-mul_right (2 ^ n) some)
