-- Numbers within a width.
use Rattle.std.proofs.Common.{◌≡◌, ℕ, ◌<◌, ◌≤◌, ◌/◌, ◌^◌, true, nat_lt, nat_eq, ◌&&◌, arith}
use Rattle.std.proofs.lemmas.Bool.Decides.{nat_tests}
use Rattle.std.proofs.lemmas.Nat.{pow_pos}
use Rattle.std.proofs.Math.Nat.{pow-le-pow_right, div-lt_iff_lt-mul}
use Rattle.stim_csv.specs.Numeral.{fits}

both_below : (n a b : ℕ) → n < a → n < b → (nat_lt n a && nat_lt n b) ≡ true
both_below n a b p q = grind (arith, nat_tests)

pub wide_fits : (n w : ℕ) → n < 2 ^ 128 → 128 ≤ w → fits w n ≡ true
wide_fits n w small wide =
    let more : 2 ^ 128 ≤ 2 ^ w = pow-le-pow_right (omega arith) wide in
    both_below n (2 ^ 128) (2 ^ w) small (omega (arith, more, small))

quotient_test : (n m a : ℕ) → 0 < m → n < a → nat_eq (n / m) 0 ≡ (nat_lt n a && nat_lt n m)
quotient_test n m a pos small =
    let is = div-lt_iff_lt-mul {k = m} {x = n} {y = 1} pos in
    grind (arith, nat_tests, is)

pub narrow_fits : (n w : ℕ) → n < 2 ^ 128 → nat_eq (n / 2 ^ w) 0 ≡ fits w n
narrow_fits n w small = quotient_test n (2 ^ w) (2 ^ 128) (pow_pos w) small

-- numbers below 2 ^ 64 fit 64 bits and more
pub word_fits : (n w : ℕ) → n < 2 ^ 64 → 64 ≤ w → fits w n ≡ true
word_fits n w small wide =
    let more : 2 ^ 64 ≤ 2 ^ w = pow-le-pow_right (omega arith) wide in
    both_below n (2 ^ 128) (2 ^ w) (omega (arith, small)) (omega (arith, more, small))
