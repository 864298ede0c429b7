-- Numbers of so many bits.
use Rattle.std.proofs.Common.{◌≡◌, ℕ, ◌+◌, ◌*◌, ◌-◌, ◌%◌, ◌^◌, ◌<◌, ◌≤◌, ap, sym, ◌∙◌, arith}
use Rattle.std.proofs.Math.Nat.{add-mul-mod_self_right}
use Rattle.std.proofs.Math.Pow.{mod-mod-pow}

-- the lowest bits of a number's lowest bits
low_bits : (bits n w : ℕ) → w ≤ bits → n % 2 ^ bits % 2 ^ w ≡ n % 2 ^ w
low_bits bits n w narrow =
    let is : bits - w + w ≡ bits = omega (arith, narrow) in
    ap (λ k. n % 2 ^ k % 2 ^ w) (sym is) ∙ mod-mod-pow n (bits - w) w

-- as many of them by 64 bits as by 128
pub narrow_bits : (n w : ℕ) → w ≤ 64 → n % 2 ^ 64 % 2 ^ w ≡ n % 2 ^ 128 % 2 ^ w
narrow_bits n w narrow = low_bits 64 n w narrow ∙ sym (low_bits 128 n w (omega (arith, narrow)))

-- a difference of numbers below 2 ^ 64
pub narrow_difference : (a b w : ℕ) → w ≤ 64 → b < 2 ^ 64 → (a + 2 ^ 64 - b) % 2 ^ 64 % 2 ^ w ≡ (a + 2 ^ 128 - b) % 2 ^ 128 % 2 ^ w
narrow_difference a b w narrow low =
    let k : ℕ = 2 ^ 64 - 1 in
    let more : a + 2 ^ 128 - b ≡ (a + 2 ^ 64 - b) + k * 2 ^ 64 = wider a b low in
    let same : (a + 2 ^ 128 - b) % 2 ^ 64 ≡ (a + 2 ^ 64 - b) % 2 ^ 64 = ap (λ n. n % 2 ^ 64) more ∙ add-mul-mod_self_right (a + 2 ^ 64 - b) k (2 ^ 64) in
    ap (λ n. n % 2 ^ w) (sym same) ∙ narrow_bits (a + 2 ^ 128 - b) w narrow
  where
    wider : (a b : ℕ) → b < 2 ^ 64 → a + 2 ^ 128 - b ≡ (a + 2 ^ 64 - b) + (2 ^ 64 - 1) * 2 ^ 64
    wider a b low = omega (arith, low)
