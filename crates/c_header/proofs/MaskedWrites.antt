-- What a mask and a shift make of a word.
use Rattle.std.proofs.Common.{◌≡◌, ◌∙◌, ℕ, ◌+◌, ◌-◌, ◌*◌, ◌/◌, ◌%◌, ◌^◌, ◌<◌, ◌≤◌, bit_and, bit_or, lit<, add-zero, sym, ap, arith}
use Rattle.std.specs.Int.Bits.{or_zero_r}
use Rattle.std.proofs.Math.Nat.{mod-lt, pow-le-pow_right}
use Rattle.std.proofs.lemmas.Nat.{pow_pos, pow-add, shr_split, mod-pow-add, and_comm, or_block, or_shifted, and-not}
use Rattle.std.proofs.lemmas.Nat.Bits.{and_high}
use Rattle.rb_base.specs.Bits.{put}

less_one : (a b : ℕ) → 0 < a → (a - 1) * b ≡ a * b - b
less_one a b some =
    let whole : a ≡ a - 1 + 1 = omega arith in
    let grown : a * b ≡ (a - 1) * b + b = ap (λ k. k * b) whole ∙ times (a - 1) in
    omega arith
  where
    times : (t : ℕ) → (t + 1) * b ≡ t * b + b
    times t = omega arith

pub mask-value : (n lo : ℕ) → (2 ^ n - 1) * 2 ^ lo ≡ 2 ^ (n + lo) - 2 ^ lo
mask-value n lo = rw (pow-add 2 n lo) (less_one (2 ^ n) (2 ^ lo) (pow_pos n))

-- what the mask takes
pub taken : (d n lo : ℕ) → bit_and d ((2 ^ n - 1) * 2 ^ lo) ≡ d / 2 ^ lo % 2 ^ n * 2 ^ lo
taken d n lo = ap (bit_and d) (mask-value n lo) ∙ and_high d n lo

-- what it leaves
left : (w d n lo : ℕ) → n + lo ≤ w → d < 2 ^ w → bit_and d (2 ^ w - 1 - (2 ^ n - 1) * 2 ^ lo) ≡ d / 2 ^ (n + lo) * 2 ^ n * 2 ^ lo + d % 2 ^ lo
left w d n lo inside small =
    let field : ℕ = d / 2 ^ lo % 2 ^ n * 2 ^ lo in
    let mask : (2 ^ n - 1) * 2 ^ lo ≡ 2 ^ (n + lo) - 2 ^ lo = mask-value n lo in
    let in_range : 2 ^ (n + lo) - 2 ^ lo < 2 ^ w = omega (arith, pow_pos lo, pow-le-pow_right {n = 2} (lit< tt) inside) in
    let both : bit_and d (2 ^ w - 1 - (2 ^ (n + lo) - 2 ^ lo)) + field ≡ d =
    (λ i. and_comm d (2 ^ w - 1 - (2 ^ (n + lo) - 2 ^ lo)) i + sym (and_comm (2 ^ (n + lo) - 2 ^ lo) d ∙ and_high d n lo) i) ∙ and-not w (2 ^ (n + lo) - 2 ^ lo) d in_range small in
    let power : d / 2 ^ (n + lo) * 2 ^ (n + lo) ≡ d / 2 ^ (n + lo) * 2 ^ n * 2 ^ lo = rw (pow-add 2 n lo) (omega arith) in
    let parts : d / 2 ^ (n + lo) * 2 ^ (n + lo) + (field + d % 2 ^ lo) ≡ d = ap (λ low. d / 2 ^ (n + lo) * 2 ^ (n + lo) + low) (sym (mod-pow-add d n lo)) ∙ shr_split d (n + lo) in
    rw mask (omega arith)

pub written : (d v low bits : ℕ) → 0 < bits → low + bits ≤ 32 → d < 2 ^ 32 → v < 2 ^ bits
    → bit_or (bit_and d (2 ^ 32 - 1 - (2 ^ bits - 1) * 2 ^ low)) (v * 2 ^ low) ≡ put d (low + bits - 1) low v
written d v low bits some inside small fits =
    let top : low + bits - 1 + 1 ≡ bits + low = omega (arith, some) in
    let regroup : (d / 2 ^ (bits + low) * 2 ^ bits + v) * 2 ^ low + d % 2 ^ low ≡ d / 2 ^ (bits + low) * 2 ^ (bits + low) + v * 2 ^ low + d % 2 ^ low = rw (pow-add 2 bits low) (sum (d / (2 ^ bits * 2 ^ low)) (2 ^ bits) (2 ^ low)) in
    (λ i. bit_or (left 32 d bits low (omega (arith, inside)) small i) (sym (add-zero (v * 2 ^ low)) i))
    ∙ or_block low (d / 2 ^ (bits + low) * 2 ^ bits) v (d % 2 ^ low) 0 (mod-lt d (pow_pos low)) (pow_pos low)
    ∙ (λ i. or_shifted (d / 2 ^ (bits + low)) bits v fits i * 2 ^ low + or_zero_r (d % 2 ^ low) i)
    ∙ regroup
    ∙ ap (λ m. d / 2 ^ m * 2 ^ m + v * 2 ^ low + d % 2 ^ low) (sym top)
  where
    sum : (h a b : ℕ) → (h * a + v) * b + d % 2 ^ low ≡ h * (a * b) + v * b + d % 2 ^ low
    sum h a b = omega arith
