-- Counting agrees with whole numbers.
use Rattle.std.proofs.Common.{◌≡◌, ℕ, suc, ◌+◌, ◌-◌, ◌^◌, ◌%◌, ◌<◌, ◌≤◌, ◌↔◌, Bool, true, false, ◌&&◌, nat_le, nat_lt, if◌then◌else◌, Option, Some, None, unwrap_or, refl, ap, ◌∙◌, mod-lt, inl, inr, arith}
use Rattle.std.proofs.Math.Nat.{add-mod_right, mod-add-mod, mod-eq_of_lt}
use Rattle.std.proofs.Math.Pow.{pow_pos}
use Rattle.std.proofs.lemmas.Bool.Decides.{leb_tells}
use Rattle.std.proofs.lemmas.Bool.{ltb-true, lt-ltb, leb-true, le-leb}
use Rattle.plain_lemmas.proofs.Bools.{and-both_true as both}
use Rattle.v_design.specs.Expr.{bit_of}
use Rattle.rb_model.specs.Effects.{counted, is_over, is_under, overflows, underflows}
use Rattle.machine_run.specs.Counting.{PassesHigh, PassesLow}

bit_true : (c : Bool) → bit_of c ≡ 1 → c ≡ true
bit_true true e = refl
bit_true false e = absurd (omega (arith, e))

pub overflow_where : (w v up down : ℕ) → (overflows w v up down ≡ 1) ↔ (2 ^ w + down ≤ v + up)
overflow_where w v up down =
    (λ e. leb-true (2 ^ w + down) (v + up) (bit_true (nat_le (2 ^ w + down) (v + up)) e), λ l. ap bit_of (le-leb (2 ^ w + down) (v + up) l))

pub underflow_where : (w v up down : ℕ) → (underflows v up down ≡ 1) ↔ (v + up < down)
underflow_where w v up down =
    (λ e. ltb-true (v + up) down (bit_true (nat_lt (v + up) down) e), λ l. ap bit_of (lt-ltb (v + up) down l))

bit_false : (c : Bool) → bit_of c ≡ 0 → c ≡ false
bit_false true e = absurd (omega (arith, e))
bit_false false e = refl

-- a test that fails
le-fails : (a b : ℕ) → (nat_le a b ≡ false) ↔ (b < a)
le-fails a b = elim (leb_tells a b) [
  | inl h ↦ (λ e. absurd (let p : nat_le a b ≡ true = h.0 in cc), λ l. absurd (omega (arith, l, h.1)))
  | inr h ↦ (λ e. h.1, λ l. h.0)
]

lt-fails : (a b : ℕ) → (nat_lt a b ≡ false) ↔ (b ≤ a)
lt-fails a b = elim (leb_tells (suc a) b) [
  | inl h ↦ (λ e. absurd (let p : nat_lt a b ≡ true = h.0 in cc), λ l. absurd (omega (arith, l, h.1)))
  | inr h ↦ (λ e. omega (arith, h.1), λ l. h.0)
]

pub no_overflow_where : (w v up down : ℕ) → (overflows w v up down ≡ 0) ↔ (v + up < 2 ^ w + down)
no_overflow_where w v up down =
    let t : (nat_le (2 ^ w + down) (v + up) ≡ false) ↔ (v + up < 2 ^ w + down) = le-fails (2 ^ w + down) (v + up) in
    (λ e. t.0 (bit_false (nat_le (2 ^ w + down) (v + up)) e), λ l. ap bit_of (t.1 l))

pub no_underflow_where : (w v up down : ℕ) → (underflows v up down ≡ 0) ↔ (down ≤ v + up)
no_underflow_where w v up down =
    let t : (nat_lt (v + up) down ≡ false) ↔ (down ≤ v + up) = lt-fails (v + up) down in
    (λ e. t.0 (bit_false (nat_lt (v + up) down) e), λ l. ap bit_of (t.1 l))

not_both : (c d : Bool) → (c ≡ true → d ≡ true → ⊥) → (c && d) ≡ false
not_both true true h = absurd (h refl refl)
not_both true false h = refl
not_both false d h = refl

not_over : (v up down : ℕ) (high : Option ℕ) → (PassesHigh v up down high → ⊥) → is_over v up down high ≡ false
not_over v up down None h = refl
not_over v up down (Some high) h = not_both (nat_lt 0 up) (nat_lt (high + down) (v + up)) (λ p q. h (ltb-true 0 up p, ltb-true (high + down) (v + up) q))

not_under : (v up down : ℕ) (low : Option ℕ) → (PassesLow v up down low → ⊥) → is_under v up down low ≡ false
not_under v up down None h = refl
not_under v up down (Some low) h = not_both (nat_lt 0 down) (nat_lt (v + up) (low + down)) (λ p q. h (ltb-true 0 down p, ltb-true (v + up) (low + down) q))

pub counts_to_high : (w v up down high : ℕ) (low : Option ℕ) → PassesHigh v up down (Some high) → counted w v up down (Some high) low ≡ high
counts_to_high w v up down high low p =
    ap (λ c. if c then high else (if is_under v up down low then unwrap_or low 0 else (v + up + 2 ^ w - down) % 2 ^ w))
    (both (nat_lt 0 up) (nat_lt (high + down) (v + up)) (lt-ltb 0 up p.0) (lt-ltb (high + down) (v + up) p.1))

pub counts_to_low : (w v up down : ℕ) (high : Option ℕ) (low : ℕ) → (PassesHigh v up down high → ⊥) → PassesLow v up down (Some low) → counted w v up down high (Some low) ≡ low
counts_to_low w v up down high low h p =
    ap (λ c. if c then unwrap_or high 0 else (if is_under v up down (Some low) then low else (v + up + 2 ^ w - down) % 2 ^ w)) (not_over v up down high h)
    ∙ ap (λ c. if c then low else (v + up + 2 ^ w - down) % 2 ^ w)
    (both (nat_lt 0 down) (nat_lt (v + up) (low + down)) (lt-ltb 0 down p.0) (lt-ltb (v + up) (low + down) p.1))

module _ (w v up down : ℕ) (high low : Option ℕ) (h : PassesHigh v up down high → ⊥) (l : PassesLow v up down low → ⊥) where
  free : counted w v up down high low ≡ (v + up + 2 ^ w - down) % 2 ^ w
  free =
      ap (λ c. if c then unwrap_or high 0 else (if is_under v up down low then unwrap_or low 0 else (v + up + 2 ^ w - down) % 2 ^ w)) (not_over v up down high h)
      ∙ ap (λ c. if c then unwrap_or low 0 else (v + up + 2 ^ w - down) % 2 ^ w) (not_under v up down low l)

  pub counts_below : counted w v up down high low < 2 ^ w
  counts_below =
      let p : 0 < 2 ^ w = pow_pos w in
      let q : (v + up + 2 ^ w - down) % 2 ^ w < 2 ^ w = mod-lt (v + up + 2 ^ w - down) p in
      let e : counted w v up down high low ≡ (v + up + 2 ^ w - down) % 2 ^ w = free in
      rw e q

  pub counts_modulo : down < 2 ^ w → (counted w v up down high low + down) % 2 ^ w ≡ (v + up) % 2 ^ w
  counts_modulo d =
      let whole : v + up + 2 ^ w - down + down ≡ v + up + 2 ^ w = omega arith in
      ap (λ y. (y + down) % 2 ^ w) free
      ∙ (mod-add-mod (v + up + 2 ^ w - down) (2 ^ w) down
      ∙ (ap (λ y. y % 2 ^ w) whole
      ∙ add-mod_right (v + up) (2 ^ w)))

  pub counts_exactly : down ≤ v + up → v + up < 2 ^ w + down → counted w v up down high low + down ≡ v + up
  counts_exactly some room =
      let t : ℕ = v + up - down in
      let whole : v + up + 2 ^ w - down ≡ t + 2 ^ w = omega arith in
      let small : t < 2 ^ w = omega arith in
      let e : counted w v up down high low ≡ t = free ∙ (ap (λ y. y % 2 ^ w) whole ∙ (add-mod_right t (2 ^ w) ∙ mod-eq_of_lt small)) in
      ap (λ y. y + down) e ∙ omega (arith, some)
