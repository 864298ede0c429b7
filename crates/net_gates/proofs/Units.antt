-- What constants make of operators.
use Rattle.std.proofs.Common.{◌≡◌, ℕ, ◌+◌, ◌-◌, ◌%◌, ◌<◌, ◌^◌, zero, suc, refl, sym, ◌∙◌, arith, bit_and, bit_or, bit_xor}
use Rattle.std.specs.Prelude.{nat_lt}
use Rattle.std.specs.Int.Bits.{and_zero_l, and_zero_r, or_zero_l, or_zero_r, xor_zero_l, xor_zero_r}
use Rattle.std.proofs.lemmas.Nat.{and_mask, and_comm, or_comm, or_lt, le_or_r, pow_pos}
use Rattle.std.proofs.Math.Nat.{mod-eq_of_lt}
use Rattle.rtl_net.specs.Value.{bit_of}
use Rattle.rtl_net.proofs.Nets.{Grows-refl, Grows-trans, fits_at}

pub and_left_zero : (a b : ℕ) → a ≡ 0 → a ≡ bit_and a b
and_left_zero a b e = rw e (sym (and_zero_l b))

pub and_right_zero : (a b : ℕ) → b ≡ 0 → b ≡ bit_and a b
and_right_zero a b e = rw e (sym (and_zero_r a))

pub and_right_full : (w a b : ℕ) → a < 2 ^ w → b ≡ 2 ^ w - 1 → a ≡ bit_and a b
and_right_full w a b l e = rw e (sym (and_mask a w ∙ mod-eq_of_lt l))

pub and_left_full : (w a b : ℕ) → b < 2 ^ w → a ≡ 2 ^ w - 1 → b ≡ bit_and a b
and_left_full w a b l e = and_right_full w b a l e ∙ and_comm b a

pub or_left_zero : (a b : ℕ) → a ≡ 0 → b ≡ bit_or a b
or_left_zero a b e = rw e (sym (or_zero_l b))

pub or_right_zero : (a b : ℕ) → b ≡ 0 → a ≡ bit_or a b
or_right_zero a b e = rw e (sym (or_zero_r a))

pub or_right_full : (w a b : ℕ) → a < 2 ^ w → b ≡ 2 ^ w - 1 → b ≡ bit_or a b
or_right_full w a b l e =
    let p : 0 < 2 ^ w = pow_pos w in
    let k : b < 2 ^ w = omega arith in
    omega (arith, or_lt w a b l k, le_or_r a b)

pub or_left_full : (w a b : ℕ) → b < 2 ^ w → a ≡ 2 ^ w - 1 → a ≡ bit_or a b
or_left_full w a b l e = or_right_full w b a l e ∙ or_comm b a

pub xor_left_zero : (a b : ℕ) → a ≡ 0 → b ≡ bit_xor a b
xor_left_zero a b e = rw e (sym (xor_zero_l b))

pub xor_right_zero : (a b : ℕ) → b ≡ 0 → a ≡ bit_xor a b
xor_right_zero a b e = rw e (sym (xor_zero_r a))

pub sum_left_zero : (w a b : ℕ) → b < 2 ^ w → a ≡ 0 → b ≡ (a + b) % 2 ^ w
sum_left_zero w a b l e =
    let k : a + b < 2 ^ w = omega arith in
    let s : a + b ≡ b = omega arith in
    sym (mod-eq_of_lt k ∙ s)

pub sum_right_zero : (w a b : ℕ) → a < 2 ^ w → b ≡ 0 → a ≡ (a + b) % 2 ^ w
sum_right_zero w a b l e =
    let k : a + b < 2 ^ w = omega arith in
    let s : a + b ≡ a = omega arith in
    sym (mod-eq_of_lt k ∙ s)

pub less_zero : (w a b : ℕ) → a < 2 ^ w → b ≡ 0 → a ≡ (a + 2 ^ w - b) % 2 ^ w
less_zero w a b l e = grind (arith, mod-eq_of_lt l)

pub bit_nonzero : (a : ℕ) → a < 2 ^ 1 → a ≡ bit_of (nat_lt 0 a)
bit_nonzero zero l = refl
bit_nonzero (suc zero) l = refl
bit_nonzero (suc (suc a)) l = absurd (omega arith)

pub ruleset and_units = (Grows-refl, Grows-trans, and_left_zero, and_right_zero, and_left_full, and_right_full, fits_at)

pub ruleset or_units = (Grows-refl, Grows-trans, or_left_zero, or_right_zero, or_left_full, or_right_full, fits_at)

pub ruleset xor_units = (Grows-refl, Grows-trans, xor_left_zero, xor_right_zero)

pub ruleset sum_units = (Grows-refl, Grows-trans, sum_left_zero, sum_right_zero, less_zero, bit_nonzero, fits_at)
