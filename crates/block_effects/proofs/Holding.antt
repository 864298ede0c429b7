-- What software's accesses and the resets do is what is said.
use Rattle.std.proofs.Common.{◌≡◌, ◌∙◌, ℕ, ◌==◌, Bool, true, false, not, ◌&&◌, cond, is_some, [], ◌∷◌, ◌++◌, refl, ap}
use Rattle.std.specs.List.{AllByRecursion}
use Rattle.rb_model.specs.declared.kinds.OnRead.{OnRead}
use Rattle.rb_model.specs.declared.kinds.OnRead.TheVariants as on_read
use Rattle.rb_model.specs.declared.block.Field.{Field}
use Rattle.rb_model.specs.declared.block.Slot.{Slot}
use Rattle.rb_model.specs.declared.block.View.{View}
use Rattle.rb_model.specs.Effects.{after_read, has_read_effect, is_gated, is_open}
use Rattle.rb_model.specs.Kept.{when}
use Rattle.block_effects.specs.declared.kinds.Effect.TheVariants as effect
use Rattle.block_effects.specs.Effects.{access_effects, behind_effects, bits_effect, effects, has_write_effect, hardware_effects, is_whole, reset_effects}
use Rattle.block_effects.specs.Says.{Says, value_read}
use Rattle.block_effects.proofs.Bits.{written-bit}
use Rattle.block_effects.proofs.Hardware.{hardware_says}
use Rattle.block_effects.proofs.Resets.{reset_holds}
use Rattle.block_effects.proofs.Sayings.{when_says}
use Rattle.plain_lemmas.proofs.Bools.{and-right}
use Rattle.plain_lemmas.proofs.Lists.{each-append}

once_used : (writes free : Bool) → (writes && free && not (true && (1 == 1))) ≡ false
once_used true true = refl
once_used true false = refl
once_used false true = refl
once_used false false = refl

once_says : (s : Slot) (v : View) (f : Field) → (v.writes && v.once) ≡ true → Says s v f effect.Once
once_says s v f h g = ap (λ t. v.writes && is_open v.gate g && not (t && (1 == 1))) (and-right v.writes v.once h) ∙ once_used v.writes (is_open v.gate g)

shut : (writes free : Bool) → (writes && false && free) ≡ false
shut true true = refl
shut true false = refl
shut false true = refl
shut false false = refl

gate_says : (s : Slot) (v : View) (f : Field) → Says s v f (effect.WritesWhile v.gate)
gate_says s v f = (refl, λ x done e. ap (λ t. v.writes && t && not (v.once && (done == 1))) e ∙ shut v.writes (not (v.once && (done == 1))))

read_is : (o : OnRead) (w x : ℕ) → after_read o w x ≡ value_read o w x
read_is on_read.Off w x = refl
read_is on_read.RClr w x = refl
read_is on_read.RSet w x = refl

access_says : (s : Slot) (v : View) (f : Field) → AllByRecursion (Says s v f) (access_effects s v f)
access_says s v f =
    let P = Says s v f in
    let bits = when (not (is_whole s f)) (bits_effect s f) in
    let once = when (v.writes && v.once) effect.Once in
    let writes = when (v.writes && has_write_effect v.on_write) (effect.Writes v.on_write) in
    let reads = when (has_read_effect v.on_read) (effect.Reads v.on_read) in
    let gated = when (v.writes && is_gated v.gate) (effect.WritesWhile v.gate) in
    each-append P (bits ++ once ++ writes ++ reads) gated
    (each-append P (bits ++ once ++ writes) reads
    (each-append P (bits ++ once) writes
    (each-append P bits once
    (when_says P (not (is_whole s f)) (bits_effect s f) (λ h. (refl, refl, refl)))
    (when_says P (v.writes && v.once) effect.Once (once_says s v f)))
    (when_says P (v.writes && has_write_effect v.on_write) (effect.Writes v.on_write) (λ h x d k l m n. written-bit v.on_write f.width x d k m n)))
    (when_says P (has_read_effect v.on_read) (effect.Reads v.on_read) (λ h x. read_is v.on_read f.width x)))
    (when_says P (v.writes && is_gated v.gate) (effect.WritesWhile v.gate) (λ h. gate_says s v f))

behind_says : (s : Slot) (v : View) (f : Field) → AllByRecursion (Says s v f) (behind_effects v f)
behind_says s v f = go v.alias refl
  where
    go : (a : Bool) → v.alias ≡ a → AllByRecursion (Says s v f) (cond a (effect.ViewOf v.field ∷ []) (hardware_effects f))
    go true e = ((e, refl), tt)
    go false e = hardware_says s v f

reset_says : (s : Slot) (v : View) (f : Field) → AllByRecursion (Says s v f) (reset_effects f)
reset_says s v f = when_says (Says s v f) (is_some f.reset && is_some f.reset_by.signal) (effect.ResetBy f.reset_by) (λ h. reset_holds f)

pub all_say : (s : Slot) (v : View) (f : Field) → AllByRecursion (Says s v f) (effects s v f)
all_say s v f = each-append (Says s v f) (access_effects s v f ++ behind_effects v f) (reset_effects f)
    (each-append (Says s v f) (access_effects s v f) (behind_effects v f) (access_says s v f) (behind_says s v f))
    (reset_says s v f)
