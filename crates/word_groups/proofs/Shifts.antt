-- Numbers that are shifted within a word.
use Rattle.std.proofs.Common.{◌≡◌, ◌∙◌, ℕ, ◌+◌, ◌-◌, ◌*◌, ◌/◌, ◌%◌, ◌^◌, ◌<◌, ◌≤◌, Bool, true, false, cond, Option, None, Some, bit_and, lit<, ap, subst, arith}
use Rattle.std.specs.Option.{option_map}
use Rattle.std.proofs.Math.Nat.{mod-eq_of_lt, mod-lt, mul-le-mul_right, pow-le-pow_right}
use Rattle.std.proofs.lemmas.Nat.{and_mask, pow_pos, pow-add, shl_whole}
use Rattle.rb_model.specs.declared.block.Field.{Field}
use Rattle.rb_model.specs.declared.block.Slot.{Slot}
use Rattle.rb_model.specs.SoundField.{is_wire}
use Rattle.word_groups.specs.Parts.{part_reset}
use Rattle.plain_lemmas.proofs.Numbers.{times_power-below as shifted_fits}

pub ones_fit : (n : ℕ) → 2 ^ n - 1 < 2 ^ n
ones_fit n = omega (arith, pow_pos n)

-- what is shifted stays whole
pub shifted : (x n lo : ℕ) → x < 2 ^ n → lo + n ≤ 32 → x * 2 ^ lo % 2 ^ 64 ≡ x * 2 ^ lo
shifted x n lo fits inside = mod-eq_of_lt (shifted_fits x n lo 64 fits (omega (arith, inside)))

pub part_reset-fits : (s : Slot) (f : Field) (r : ℕ) → part_reset s f ≡ Some r → r < 2 ^ s.bits
part_reset-fits s f r e = go (is_wire f.class) f.reset e
  where
    go : (w : Bool) (o : Option ℕ) → cond w None (option_map (λ n. n / 2 ^ s.from % 2 ^ s.bits) o) ≡ Some r → r < 2 ^ s.bits
    go true o e = cc e
    go false None e = cc e
    go false (Some n) e = let same : n / 2 ^ s.from % 2 ^ s.bits ≡ r = cc e in subst (λ k. k < 2 ^ s.bits) same (mod-lt (n / 2 ^ s.from) (pow_pos s.bits))

pub shown : (n from bits : ℕ) → bits ≤ 32 → bit_and (n / 2 ^ from) (1 * 2 ^ bits % 2 ^ 64 - 1) ≡ n / 2 ^ from % 2 ^ bits
shown n from bits small =
    let whole : 1 * 2 ^ bits % 2 ^ 64 ≡ 1 * 2 ^ bits = shl_whole 1 1 bits 64 (lit< tt) (omega (arith, small)) in
    let one : 1 * 2 ^ bits ≡ 2 ^ bits = plain (2 ^ bits) in
    ap (λ m. bit_and (n / 2 ^ from) (m - 1)) (whole ∙ one) ∙ and_mask (n / 2 ^ from) bits
  where
    plain : (m : ℕ) → 1 * m ≡ m
    plain m = omega arith
