-- Sums in nets of fixed widths.
use Rattle.std.proofs.Common.{◌≡◌, ℕ, ◌+◌, ◌-◌, ◌*◌, ◌%◌, ◌^◌, ◌==◌, ◌<◌, ◌∙◌, Bool, true, false, refl, arith}
use Rattle.std.proofs.Math.Nat.{mod-eq_of_lt}
use Rattle.std.proofs.lemmas.Nat.{pow-add}
use Rattle.rtl_net.specs.Value.{bit_of}
use Rattle.rtl_net.proofs.Nets.{Grows-refl, Grows-trans, fits_at}
use Rattle.plain_lemmas.proofs.Numbers.{wrap_down}

pub no_wrap : (w a b : ℕ) → a < 2 ^ w → b < 2 ^ w → (a + b) % 2 ^ (w + 2) ≡ a + b
no_wrap w a b p q =
    let e : 2 ^ (w + 2) ≡ 2 ^ w * 2 ^ 2 = pow-add 2 w 2 in
    let l : a + b < 2 ^ (w + 2) = omega arith in
    mod-eq_of_lt l

pub beyond_fits : (w a : ℕ) → a < 2 ^ w → 2 ^ w + a < 2 ^ (w + 2)
beyond_fits w a l =
    let e : 2 ^ (w + 2) ≡ 2 ^ w * 2 ^ 2 = pow-add 2 w 2 in
    omega arith

pub bit_is_one : (b : Bool) → (bit_of b == 1) ≡ b
bit_is_one true = refl
bit_is_one false = refl

pub ruleset wraps = (Grows-trans, Grows-refl, fits_at, no_wrap, wrap_down, beyond_fits, bit_is_one)
