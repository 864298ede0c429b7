-- The effects of software and hardware keep a field's value within its width.
use Rattle.std.proofs.Common.{◌≡◌, ℕ, zero, suc, ◌+◌, ◌-◌, ◌^◌, ◌<◌, ◌≤◌, ◌%◌, ◌==◌, Bool, true, false, not, ◌&&◌, nat_lt, if◌then◌else◌, Option, Some, None, is_some, unwrap_or, bit_and, bit_or, bit_xor, refl, subst, mod-lt, arith}
use Rattle.std.proofs.lemmas.Nat.{and_le_l, and_le_r, or_lt, xor_lt}
use Rattle.std.proofs.Math.Pow.{pow_pos}
use Rattle.rb_base.specs.Bits.{ones, part}
use Rattle.rb_base.specs.declared.trigger.Trigger.{Trigger}
use Rattle.rb_base.specs.declared.trigger.Trigger.TheVariants as trigger
use Rattle.rb_model.specs.declared.kinds.OnWrite.{OnWrite}
use Rattle.rb_model.specs.declared.kinds.OnWrite.TheVariants as on_write
use Rattle.rb_model.specs.declared.kinds.OnRead.{OnRead}
use Rattle.rb_model.specs.declared.kinds.OnRead.TheVariants as on_read
use Rattle.rb_model.specs.declared.kinds.Mask.{Mask}
use Rattle.rb_model.specs.declared.kinds.Mask.TheVariants as mask
use Rattle.rb_model.specs.declared.kinds.Latch.{Latch}
use Rattle.rb_model.specs.declared.kinds.Latch.TheVariants as latch
use Rattle.rb_model.specs.declared.block.Field.{Field}
use Rattle.rb_model.specs.declared.block.View.{View}
use Rattle.rb_model.specs.Effects.{turned, written, after_read, after_write, acts, loads, is_open, loaded, is_over, is_under, counted, events, latched, set_or_cleared, masked, finished}
use Rattle.rb_model.specs.References.{WithSome}

pub ones_below : (w : ℕ) → ones w < 2 ^ w
ones_below w = let p : 0 < 2 ^ w = pow_pos w in omega arith

pub turned_below : (w v : ℕ) → turned w v < 2 ^ w
turned_below w v = let p : 0 < 2 ^ w = pow_pos w in omega arith

zero_below : (w : ℕ) → 0 < 2 ^ w
zero_below w = pow_pos w

and_below : (w a b : ℕ) → a < 2 ^ w → bit_and a b < 2 ^ w
and_below w a b h = let l : bit_and a b ≤ a = and_le_l a b in omega arith

if_below : (w : ℕ) (c : Bool) (x y : ℕ) → x < 2 ^ w → y < 2 ^ w → (if c then x else y) < 2 ^ w
if_below w true x y h g = h
if_below w false x y h g = g

pub written-below : (o : OnWrite) (w v d : ℕ) → v < 2 ^ w → d < 2 ^ w → written o w v d < 2 ^ w
written-below on_write.Off w v d h g = g
written-below on_write.WoSet w v d h g = or_lt w v d h g
written-below on_write.WoClr w v d h g = and_below w v (turned w d) h
written-below on_write.WoT w v d h g = xor_lt w v d h g
written-below on_write.WzS w v d h g = or_lt w v (turned w d) h (turned_below w d)
written-below on_write.WzC w v d h g = and_below w v d h
written-below on_write.WzT w v d h g = xor_lt w v (turned w d) h (turned_below w d)
written-below on_write.WClr w v d h g = zero_below w
written-below on_write.WSet w v d h g = ones_below w

pub after_read-below : (o : OnRead) (w v : ℕ) → v < 2 ^ w → after_read o w v < 2 ^ w
after_read-below on_read.Off w v h = h
after_read-below on_read.RClr w v h = zero_below w
after_read-below on_read.RSet w v h = ones_below w

-- a write that acts, by data that fit; one that doesn't
pub after_write-below : (view : View) (w g done v d : ℕ) → v < 2 ^ w → (view.writes ≡ true → d < 2 ^ w) → after_write view w g done v d < 2 ^ w
after_write-below view w g done v d h f = by view.writes f
  where
    by : (c : Bool) → (c ≡ true → d < 2 ^ w) → (if c && is_open view.gate g && not (view.once && done == 1) then written view.on_write w v d else v) < 2 ^ w
    by true e = if_below w (is_open view.gate g && not (view.once && done == 1)) (written view.on_write w v d) v (written-below view.on_write w v d h (e refl)) h
    by false e = h

pub loaded-below : (f : Field) (v from g : ℕ) → v < 2 ^ f.width → from < 2 ^ f.width → loaded f v from g < 2 ^ f.width
loaded-below f v from g h e = if_below f.width f.pulse 0 (if loads f && is_open f.gate g then from else v) (zero_below f.width) (if_below f.width (loads f && is_open f.gate g) from v e h)

pub counted-below : (w v up down : ℕ) (high low : Option ℕ) → WithSome high (λ x. x < 2 ^ w) → WithSome low (λ x. x < 2 ^ w) → counted w v up down high low < 2 ^ w
counted-below w v up down high low h l = if_below w (is_over v up down high) (unwrap_or high 0) _ (level high h)
    (if_below w (is_under v up down low) (unwrap_or low 0) ((v + up + 2 ^ w - down) % 2 ^ w) (level low l) (let p : 0 < 2 ^ w = pow_pos w in mod-lt (v + up + 2 ^ w - down) p))
  where
    level : (o : Option ℕ) → WithSome o (λ x. x < 2 ^ w) → unwrap_or o 0 < 2 ^ w
    level None g = zero_below w
    level (Some x) g = g

pub events-below : (e : Trigger) (w input last : ℕ) → input < 2 ^ w → last < 2 ^ w → events e w input last < 2 ^ w
events-below trigger.Level w input last h g = h
events-below trigger.Posedge w input last h g = and_below w input (turned w last) h
events-below trigger.Negedge w input last h g = and_below w (turned w input) last (turned_below w input)
events-below trigger.Bothedge w input last h g = xor_lt w input last h g
events-below trigger.Nonsticky w input last h g = h

pub latched-below : (l : Latch) (w v input last : ℕ) → v < 2 ^ w → input < 2 ^ w → last < 2 ^ w → latched l w v input last < 2 ^ w
latched-below latch.Off w v input last h i g = h
latched-below (latch.Bits e) w v input last h i g = or_lt w v (events e w input last) h (events-below e w input last i g)
latched-below (latch.Whole e) w v input last h i g = if_below w (v == 0) (events e w input last) v (events-below e w input last i g) h
latched-below latch.Plain w v input last h i g = h

pub set_or_cleared-below : (w v set clear : ℕ) → v < 2 ^ w → set_or_cleared w v set clear < 2 ^ w
set_or_cleared-below w v set clear h = if_below w (clear == 1) 0 (if set == 1 then ones w else v) (zero_below w) (if_below w (set == 1) (ones w) v (ones_below w) h)

pub masked-below : (m : Mask) (w old v x : ℕ) → old < 2 ^ w → v < 2 ^ w → masked m w old v x < 2 ^ w
masked-below mask.Off w old v x h g = g
masked-below (mask.Enable i) w old v x h g = or_lt w (bit_and v x) (bit_and old (turned w x)) (and_below w v x g) (and_below w old (turned w x) h)
masked-below (mask.Mask i) w old v x h g = or_lt w (bit_and v (turned w x)) (bit_and old x) (and_below w v (turned w x) g) (and_below w old x h)

pub finished-below : (f : Field) (old v set clear x : ℕ) → old < 2 ^ f.width → v < 2 ^ f.width → finished f old v set clear x < 2 ^ f.width
finished-below f old v set clear x h g = masked-below f.keep f.width old (set_or_cleared f.width v set clear) x h (set_or_cleared-below f.width v set clear g)
