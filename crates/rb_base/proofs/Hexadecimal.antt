-- Hexadecimal digits, from the last to the first.
use Rattle.std.specs.Fmt.{digits, digits_onto, digit_glyph}
use Rattle.std.proofs.Common.{zero, suc, ◌≡◌, ℕ, ◌+◌, ◌-◌, ◌*◌, ◌/◌, ◌%◌, ◌^◌, ◌<◌, ◌≤◌, ◌==◌, Bool, true, false, if◌then◌else◌, List, [], ◌∷◌, length, drop, set, refl, ap, sym, ◌∙◌, subst, arith}
use Rattle.std.proofs.lemmas.Bool.Decides.{nat_tests}
use Rattle.std.proofs.lemmas.List.{drop-set}
use Rattle.std.proofs.lemmas.Nat.{pow-add}

drop_end : (xs : List ℕ) (n : ℕ) → length xs ≡ n → drop n xs ≡ []
drop_end [] zero e = refl
drop_end [] (suc n) e = refl
drop_end (x ∷ xs) zero e = absurd (omega arith)
drop_end (x ∷ xs) (suc n) e = drop_end xs n (omega arith)

pub hex_start : (n : ℕ) (bs : List ℕ) → length bs ≡ 32 → digits_onto (32 + 32) 16 false n (drop 32 bs) ≡ digits 16 false n
unfolding digits
hex_start n bs e = ap (λ l. digits_onto 64 16 false n l) (drop_end bs 32 e)

pub enough : (at left : ℕ) → 16 ≤ left → left < 16 ^ at → 2 ≤ at
enough zero left p q = absurd (omega arith)
enough (suc zero) left p q = absurd (omega arith)
enough (suc (suc n)) left p q = omega arith

pub less_left : (at left : ℕ) → 1 ≤ at → left < 16 ^ at → left / 16 < 16 ^ (at - 1)
less_left at left p q =
    let e : 1 + (at - 1) ≡ at = omega arith in
    let f : 16 ^ at ≡ 16 * 16 ^ (at - 1) = ap (λ n. 16 ^ n) (sym e) ∙ pow-add 16 1 (at - 1) in
    omega arith

more_left : (left : ℕ) → 16 ≤ left → (left / 16 == 0) ≡ false
more_left left p = grind (arith, nat_tests)

none_left : (left : ℕ) → left < 16 → (left / 16 == 0) ≡ true
none_left left p = grind (arith, nat_tests)

last_digit : (left : ℕ) → left < 16 → left % 16 ≡ left
last_digit left p = omega arith

module _ (at left : ℕ) (bs : List ℕ) (some : 1 ≤ at) (within : at ≤ length bs) where
  one_more : 32 + at ≡ suc (32 + (at - 1))
  one_more = omega arith

  dropped : (d : ℕ) → drop (at - 1) (set bs (at - 1) d) ≡ d ∷ drop at bs
  dropped d = let e : at - 1 + 1 ≡ at = omega arith in drop-set bs (at - 1) d (omega arith) ∙ ap (λ n. d ∷ drop n bs) e

  pub hex_step : 16 ≤ left → (d : ℕ) → d ≡ digit_glyph false (left % 16)
      → digits_onto (32 + (at - 1)) 16 false (left / 16) (drop (at - 1) (set bs (at - 1) d)) ≡ digits_onto (32 + at) 16 false left (drop at bs)
  hex_step p d e =
      ap (digits_onto (32 + (at - 1)) 16 false (left / 16)) (dropped d ∙ ap (λ x. x ∷ drop at bs) e)
      ∙ (ap (λ (b : Bool). if b then digit_glyph false (left % 16) ∷ drop at bs else digits_onto (32 + (at - 1)) 16 false (left / 16) (digit_glyph false (left % 16) ∷ drop at bs)) (sym (more_left left p))
      ∙ ap (λ k. digits_onto k 16 false left (drop at bs)) (sym one_more))

  pub hex_last : left < 16 → (d : ℕ) → d ≡ digit_glyph false left → drop (at - 1) (set bs (at - 1) d) ≡ digits_onto (32 + at) 16 false left (drop at bs)
  hex_last p d e =
      dropped d ∙ ap (λ x. x ∷ drop at bs) (e ∙ ap (digit_glyph false) (sym (last_digit left p)))
      ∙ (ap (λ (b : Bool). if b then digit_glyph false (left % 16) ∷ drop at bs else digits_onto (32 + (at - 1)) 16 false (left / 16) (digit_glyph false (left % 16) ∷ drop at bs)) (sym (none_left left p))
      ∙ ap (λ k. digits_onto k 16 false left (drop at bs)) (sym one_more))
