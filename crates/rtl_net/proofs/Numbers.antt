-- Numbers and bits.
use Rattle.std.proofs.Common.{zero, suc, ℕ, ◌+◌, ◌*◌, ◌-◌, ◌%◌, ◌^◌, ◌≡◌, ◌<◌, ◌≤◌, ◌==◌, Bool, true, false, ◌&&◌, if◌then◌else◌, refl, ap, ◌∙◌, subst, arith, bit_and, bit_or, bit_xor}
use Rattle.std.proofs.Math.Nat.{mod-eq_of_lt}
use Rattle.std.proofs.lemmas.Nat.{mod_below, and_mod, or_mod, xor_mod, pow_pos, pow-add}
use Rattle.std.proofs.Math.Pow.{pow_mono}
use Rattle.rtl_net.specs.Value.{bit_of}

-- values within widths
pub bit_fits : (b : Bool) → bit_of b < 2 ^ 1
bit_fits true = omega arith
bit_fits false = omega arith

pub odd_fits : (n : ℕ) → n % 2 < 2 ^ 1
odd_fits n = omega arith

pub mod_fits : (n w : ℕ) → n % 2 ^ w < 2 ^ w
mod_fits n w = mod_below n (2 ^ w) (pow_pos w)

pub cat_fits : (a b u w : ℕ) → a < 2 ^ u → b < 2 ^ w → a * 2 ^ w + b < 2 ^ (u + w)
cat_fits a b u w p q = rw (pow-add 2 u w) (less_of (2 ^ u) (2 ^ w) p q)
  where
    less_of : (x y : ℕ) → a < x → b < y → a * y + b < x * y
    less_of x y p q = grind arith

pub and_fits : (a b w : ℕ) → a < 2 ^ w → b < 2 ^ w → bit_and a b < 2 ^ w
and_fits a b w p q = subst (λ n. n < 2 ^ w) (and_mod a b w ∙ rw (mod-eq_of_lt p, mod-eq_of_lt q) refl) (mod_fits (bit_and a b) w)

pub or_fits : (a b w : ℕ) → a < 2 ^ w → b < 2 ^ w → bit_or a b < 2 ^ w
or_fits a b w p q = subst (λ n. n < 2 ^ w) (or_mod a b w ∙ rw (mod-eq_of_lt p, mod-eq_of_lt q) refl) (mod_fits (bit_or a b) w)

pub xor_fits : (a b w : ℕ) → a < 2 ^ w → b < 2 ^ w → bit_xor a b < 2 ^ w
xor_fits a b w p q = subst (λ n. n < 2 ^ w) (xor_mod a b w ∙ rw (mod-eq_of_lt p, mod-eq_of_lt q) refl) (mod_fits (bit_xor a b) w)

pub not_fits : (a w : ℕ) → 2 ^ w - 1 - a < 2 ^ w
not_fits a w = let p : 0 < 2 ^ w = pow_pos w in omega arith

pub pick_fits : (c : Bool) (x y m : ℕ) → x < m → y < m → (if c then x else y) < m
pick_fits true x y m p q = p
pick_fits false x y m p q = q

-- a number within a width is within a greater one
pub wider : (x u w : ℕ) → u ≤ w → x < 2 ^ u → x < 2 ^ w
wider x u w l h = let p : 2 ^ u ≤ 2 ^ w = pow_mono l in omega arith

-- nodes of one bit
pub and_bits : (a b : ℕ) → a < 2 → b < 2 → bit_and a b ≡ bit_of (a == 1 && b == 1)
and_bits zero zero p q = refl
and_bits zero (suc zero) p q = refl
and_bits (suc zero) zero p q = refl
and_bits (suc zero) (suc zero) p q = refl
and_bits a (suc (suc b)) p q = absurd (omega arith)
and_bits (suc (suc a)) b p q = absurd (omega arith)

pub not_bit : (a : ℕ) → a < 2 → 2 ^ 1 - 1 - a ≡ bit_of (a == 0)
not_bit zero p = refl
not_bit (suc zero) p = refl
not_bit (suc (suc a)) p = absurd (omega arith)

pub pick_bit : (c x y : ℕ) → c < 2 → (if c == 0 then y else x) ≡ (if c == 1 then x else y)
pick_bit zero x y p = refl
pick_bit (suc zero) x y p = refl
pick_bit (suc (suc c)) x y p = absurd (omega arith)

pub bit_is_one : (b : Bool) → (bit_of b == 1) ≡ b
bit_is_one true = refl
bit_is_one false = refl

pub ruleset bit_steps = (bit_is_one)

-- sums and differences in wider nodes
pub no_wrap : (w u a b : ℕ) → a < 2 ^ w → b < 2 ^ w → (0 * 2 ^ w + a + (0 * 2 ^ u + b)) % 2 ^ (2 + w) ≡ a + b
no_wrap w u a b p q =
    let e : 2 ^ (2 + w) ≡ 2 ^ 2 * 2 ^ w = pow-add 2 2 w in
    let s : 0 * 2 ^ w + a + (0 * 2 ^ u + b) ≡ a + b = omega arith in
    let l : a + b < 2 ^ (2 + w) = omega (arith, e) in
    ap (λ n. n % 2 ^ (2 + w)) s ∙ mod-eq_of_lt l
