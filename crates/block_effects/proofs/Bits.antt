-- What writes, events and masks make of single bits.
use Rattle.std.proofs.Common.{◌≡◌, ◌∙◌, ◌⊎◌, inl, inr, ℕ, ◌+◌, ◌-◌, ◌*◌, ◌%◌, ◌^◌, ◌<◌, ◌==◌, Bool, true, false, cond, max, min, bit_and, bit_or, refl, sym, ap, subst, arith}
use Rattle.std.specs.Int.{bit_at}
use Rattle.std.proofs.lemmas.Nat.{and-not, pow_pos}
use Rattle.std.proofs.lemmas.Nat.Bits.{and_pow, bit_at-lt, bit_at-zero, bit_at_and, bit_at_ones, bit_at_or, bit_at_xor}
use Rattle.std.proofs.Math.Pow.{pow-lt}
use Rattle.rb_base.specs.declared.trigger.Trigger.{Trigger}
use Rattle.rb_base.specs.declared.trigger.Trigger.TheVariants as trigger
use Rattle.rb_model.specs.declared.kinds.Mask.{Mask}
use Rattle.rb_model.specs.declared.kinds.Mask.TheVariants as mask
use Rattle.rb_model.specs.declared.kinds.OnWrite.{OnWrite}
use Rattle.rb_model.specs.declared.kinds.OnWrite.TheVariants as on_write
use Rattle.rb_model.specs.Effects.{counting, events, masked, turned, written}
use Rattle.block_effects.specs.Says.{event_bit, masked_bit, written_bit}
use Rattle.plain_lemmas.proofs.Numbers.{below-two}

-- what holds of the bits 0 and 1

on_one : (P : ℕ → Type 0) → P 0 → P 1 → (a : ℕ) → a < 2 → P a
on_one P zero one a h = go (below-two a h)
  where
    go : (a ≡ 0) ⊎ (a ≡ 1) → P a
    go (inl e) = subst P (sym e) zero
    go (inr e) = subst P (sym e) one

on_two : (P : ℕ → ℕ → Type 0) → P 0 0 → P 0 1 → P 1 0 → P 1 1 → (a b : ℕ) → a < 2 → b < 2 → P a b
on_two P p q r s a b h g = on_one (λ x. P x b) (on_one (P 0) p q b g) (on_one (P 1) r s b g) a h

on_three : (P : ℕ → ℕ → ℕ → Type 0) → P 0 0 0 → P 0 0 1 → P 0 1 0 → P 0 1 1 → P 1 0 0 → P 1 0 1 → P 1 1 0 → P 1 1 1 → (a b c : ℕ) → a < 2 → b < 2 → c < 2 → P a b c
on_three P p q r s t u v w a b c h g f = on_one (λ x. P x b c) (on_two (P 0) p q r s b c g f) (on_two (P 1) t u v w b c g f) a h

turned_sum : (q t d : ℕ) → 0 < q → t < 2 → d < 2 → t * q + d * q ≡ q → t ≡ 1 - d
turned_sum q t d pos = on_two (λ a b. a * q + b * q ≡ q → a ≡ 1 - b) (λ e. omega arith) (λ e. refl) (λ e. refl) (λ e. omega arith) t d

pub turned-bit : (w d k : ℕ) → d < 2 ^ w → k < w → bit_at (turned w d) k ≡ 1 - bit_at d k
turned-bit w d k h g =
    let inside : 2 ^ k < 2 ^ w = pow-lt g in
    let sum : bit_and (turned w d) (2 ^ k) + bit_and d (2 ^ k) ≡ 2 ^ k = and-not w d (2 ^ k) h inside in
    let bits : bit_at (turned w d) k * 2 ^ k + bit_at d k * 2 ^ k ≡ 2 ^ k = ap (λ n. n + bit_at d k * 2 ^ k) (sym (and_pow (turned w d) k)) ∙ ap (λ n. bit_and (turned w d) (2 ^ k) + n) (sym (and_pow d k)) ∙ sum in
    turned_sum (2 ^ k) (bit_at (turned w d) k) (bit_at d k) (pow_pos k) (bit_at-lt (turned w d) k) (bit_at-lt d k) bits

-- Writes

pub written-bit : (o : OnWrite) (w x d k : ℕ) → d < 2 ^ w → k < w → bit_at (written o w x d) k ≡ written_bit o (bit_at x k) (bit_at d k)
written-bit on_write.Off w x d k h g = refl
written-bit on_write.WoSet w x d k h g = bit_at_or x d k ∙ on_two (λ a b. max a b ≡ cond (b == 1) 1 a) refl refl refl refl (bit_at x k) (bit_at d k) (bit_at-lt x k) (bit_at-lt d k)
written-bit on_write.WoClr w x d k h g = bit_at_and x (turned w d) k ∙ ap (min (bit_at x k)) (turned-bit w d k h g)
    ∙ on_two (λ a b. min a (1 - b) ≡ cond (b == 1) 0 a) refl refl refl refl (bit_at x k) (bit_at d k) (bit_at-lt x k) (bit_at-lt d k)
written-bit on_write.WoT w x d k h g = bit_at_xor x d k ∙ on_two (λ a b. (a + b) % 2 ≡ cond (b == 1) (1 - a) a) refl refl refl refl (bit_at x k) (bit_at d k) (bit_at-lt x k) (bit_at-lt d k)
written-bit on_write.WzS w x d k h g = bit_at_or x (turned w d) k ∙ ap (max (bit_at x k)) (turned-bit w d k h g)
    ∙ on_two (λ a b. max a (1 - b) ≡ cond (b == 0) 1 a) refl refl refl refl (bit_at x k) (bit_at d k) (bit_at-lt x k) (bit_at-lt d k)
written-bit on_write.WzC w x d k h g = bit_at_and x d k ∙ on_two (λ a b. min a b ≡ cond (b == 0) 0 a) refl refl refl refl (bit_at x k) (bit_at d k) (bit_at-lt x k) (bit_at-lt d k)
written-bit on_write.WzT w x d k h g = bit_at_xor x (turned w d) k ∙ ap (λ n. (bit_at x k + n) % 2) (turned-bit w d k h g)
    ∙ on_two (λ a b. (a + (1 - b)) % 2 ≡ cond (b == 0) (1 - a) a) refl refl refl refl (bit_at x k) (bit_at d k) (bit_at-lt x k) (bit_at-lt d k)
written-bit on_write.WClr w x d k h g = bit_at-zero k
written-bit on_write.WSet w x d k h g = bit_at_ones w k g

-- Events

pub event-bit : (e : Trigger) (w input last k : ℕ) → input < 2 ^ w → last < 2 ^ w → k < w → bit_at (events e w input last) k ≡ cond (event_bit e (bit_at input k) (bit_at last k)) 1 0
event-bit trigger.Level w input last k h g f = on_one (λ a. a ≡ cond (a == 1) 1 0) refl refl (bit_at input k) (bit_at-lt input k)
event-bit trigger.Posedge w input last k h g f = bit_at_and input (turned w last) k ∙ ap (min (bit_at input k)) (turned-bit w last k g f)
    ∙ on_two (λ a b. min a (1 - b) ≡ cond (cond (b == 0) (a == 1) false) 1 0) refl refl refl refl (bit_at input k) (bit_at last k) (bit_at-lt input k) (bit_at-lt last k)
event-bit trigger.Negedge w input last k h g f = bit_at_and (turned w input) last k ∙ ap (λ n. min n (bit_at last k)) (turned-bit w input k h f)
    ∙ on_two (λ a b. min (1 - a) b ≡ cond (cond (b == 1) (a == 0) false) 1 0) refl refl refl refl (bit_at input k) (bit_at last k) (bit_at-lt input k) (bit_at-lt last k)
event-bit trigger.Bothedge w input last k h g f = bit_at_xor input last k
    ∙ on_two (λ a b. (a + b) % 2 ≡ cond (cond (b == 0) (a == 1) (a == 0)) 1 0) refl refl refl refl (bit_at input k) (bit_at last k) (bit_at-lt input k) (bit_at-lt last k)
event-bit trigger.Nonsticky w input last k h g f = on_one (λ a. a ≡ cond (a == 1) 1 0) refl refl (bit_at input k) (bit_at-lt input k)

kept_or_set : (c : Bool) (a : ℕ) → a < 2 → max a (cond c 1 0) ≡ cond c 1 a
kept_or_set true a h = on_one (λ x. max x 1 ≡ 1) refl refl a h
kept_or_set false a h = on_one (λ x. max x 0 ≡ x) refl refl a h

pub set-bit : (e : Trigger) (w x input last k : ℕ) → input < 2 ^ w → last < 2 ^ w → k < w
    → bit_at (bit_or x (events e w input last)) k ≡ cond (event_bit e (bit_at input k) (bit_at last k)) 1 (bit_at x k)
set-bit e w x input last k h g f = bit_at_or x (events e w input last) k ∙ ap (max (bit_at x k)) (event-bit e w input last k h g f)
    ∙ kept_or_set (event_bit e (bit_at input k) (bit_at last k)) (bit_at x k) (bit_at-lt x k)

-- Masks

pub masked-bit : (m : Mask) (w old v x k : ℕ) → x < 2 ^ w → k < w → bit_at (masked m w old v x) k ≡ masked_bit m (bit_at x k) (bit_at v k) (bit_at old k)
masked-bit mask.Off w old v x k h g = refl
masked-bit (mask.Enable i) w old v x k h g = bit_at_or (bit_and v x) (bit_and old (turned w x)) k ∙ ap (λ n. max n (bit_at (bit_and old (turned w x)) k)) (bit_at_and v x k)
    ∙ ap (max (min (bit_at v k) (bit_at x k))) (bit_at_and old (turned w x) k ∙ ap (min (bit_at old k)) (turned-bit w x k h g))
    ∙ on_three (λ a b c. max (min a b) (min c (1 - b)) ≡ cond (b == 1) a c) refl refl refl refl refl refl refl refl (bit_at v k) (bit_at x k) (bit_at old k) (bit_at-lt v k) (bit_at-lt x k) (bit_at-lt old k)
masked-bit (mask.Mask i) w old v x k h g = bit_at_or (bit_and v (turned w x)) (bit_and old x) k ∙ ap (λ n. max n (bit_at (bit_and old x) k)) (bit_at_and v (turned w x) k ∙ ap (min (bit_at v k)) (turned-bit w x k h g))
    ∙ ap (max (min (bit_at v k) (1 - bit_at x k))) (bit_at_and old x k)
    ∙ on_three (λ a b c. max (min a (1 - b)) (min c b) ≡ cond (b == 0) a c) refl refl refl refl refl refl refl refl (bit_at v k) (bit_at x k) (bit_at old k) (bit_at-lt v k) (bit_at-lt x k) (bit_at-lt old k)

pub counting-bit : (m : Mask) (w v x k : ℕ) → x < 2 ^ w → k < w → bit_at (counting m w v x) k ≡ masked_bit m (bit_at x k) (bit_at v k) 0
counting-bit mask.Off w v x k h g = refl
counting-bit (mask.Enable i) w v x k h g = bit_at_and v x k ∙ on_two (λ a b. min a b ≡ cond (b == 1) a 0) refl refl refl refl (bit_at v k) (bit_at x k) (bit_at-lt v k) (bit_at-lt x k)
counting-bit (mask.Mask i) w v x k h g = bit_at_and v (turned w x) k ∙ ap (min (bit_at v k)) (turned-bit w x k h g)
    ∙ on_two (λ a b. min a (1 - b) ≡ cond (b == 0) a 0) refl refl refl refl (bit_at v k) (bit_at x k) (bit_at-lt v k) (bit_at-lt x k)
