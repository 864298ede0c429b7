-- What hardware does is what is said.
use Rattle.std.proofs.Common.{◌≡◌, ◌∙◌, ◌≢◌, ℕ, suc, ◌==◌, Bool, true, false, not, ◌&&◌, cond, if◌then◌else◌, List, [], ◌∷◌, ◌++◌, codes, map, slice_get, nat_le, Option, None, Some, refl, ap}
use Rattle.std.specs.Int.{bit_at}
use Rattle.std.specs.List.{AllByRecursion}
use Rattle.std.specs.Option.{option_map, option_map_or}
use Rattle.rb_base.specs.Bits.{ones}
use Rattle.v_design.specs.Expr.{bit_of}
use Rattle.rb_model.specs.declared.kinds.Class.{Class}
use Rattle.rb_model.specs.declared.kinds.Class.TheVariants.{Storage, Wire, Constant}
use Rattle.rb_model.specs.declared.kinds.Count.{Count}
use Rattle.rb_model.specs.declared.kinds.Feed.{Feed}
use Rattle.rb_model.specs.declared.kinds.Feed.TheVariants as feed
use Rattle.rb_model.specs.declared.kinds.Gate.{Gate}
use Rattle.rb_model.specs.declared.kinds.Gate.TheVariants as gate
use Rattle.rb_model.specs.declared.kinds.Latch.{Latch}
use Rattle.rb_model.specs.declared.kinds.Latch.TheVariants as latch
use Rattle.rb_model.specs.declared.kinds.Level.{Level}
use Rattle.rb_model.specs.declared.kinds.Mask.{Mask}
use Rattle.rb_model.specs.declared.kinds.Mask.TheVariants as mask
use Rattle.rb_model.specs.declared.kinds.Part.{Part}
use Rattle.rb_model.specs.declared.kinds.RefItem.TheVariants as item
use Rattle.rb_model.specs.declared.kinds.Shown.{Shown}
use Rattle.rb_model.specs.declared.block.Field.{Field}
use Rattle.rb_model.specs.declared.block.Slot.{Slot}
use Rattle.rb_model.specs.declared.block.View.{View}
use Rattle.rb_model.specs.Effects.{counted, counting, events, is_open, latched, loaded, loads, masked, set_or_cleared}
use Rattle.rb_model.specs.Items.{Now, ItemValues, class_value, down, fed, gated, is_interrupt, is_on, level_value, mask_value, source_value, step, up}
use Rattle.rb_model.specs.Kept.{Last, when}
use Rattle.rb_model.specs.Machine.{counts, hardware, software}
use Rattle.rb_model.specs.SoundField.{is_fed, is_wire}
use Rattle.block_effects.specs.declared.kinds.Effect.TheVariants as effect
use Rattle.block_effects.specs.Effects.{change_effects, count_effects, down_effects, hardware_effects, input_effects, interrupt_effect, is_constant, is_loaded, is_number, load_effect, load_effects, output_effects, source_effects, stop_down, stop_up, threshold_effects, up_effects}
use Rattle.block_effects.specs.Says.{Says, SaysOfClear, SaysOfKeep, SaysOfLatch, SaysOfSet}
use Rattle.block_effects.proofs.Bits.{counting-bit, event-bit, masked-bit, set-bit}
use Rattle.block_effects.proofs.Counting.{stops_down, stops_up, wraps_down, wraps_up}
use Rattle.block_effects.proofs.Sayings.{when_says}
use Rattle.plain_lemmas.proofs.Bools.{and-left, and-right, false-of_not}
use Rattle.plain_lemmas.proofs.Lists.{each-append}
use Rattle.plain_lemmas.proofs.Numbers.{not-number}

-- Sources

latch_says : (l : Latch) (f : Field) → f.latch ≡ l → SaysOfLatch l f
latch_says latch.Off f e = λ x input last. ap (λ m. latched m f.width x input last) e
latch_says (latch.Bits t) f e = λ x input last k h g p. ap (λ m. bit_at (latched m f.width x input last) k) e ∙ set-bit t f.width x input last k h g p
latch_says (latch.Whole t) f e = (
  λ x input last differs. ap (λ m. latched m f.width x input last) e ∙ ap (λ c. if c then events t f.width input last else x) (not-number x 0 differs),
  λ input last k h g p. ap (λ m. bit_at (latched m f.width 0 input last) k) e ∙ event-bit t f.width input last k h g p,
)
latch_says latch.Plain f e = λ x input last. ap (λ m. latched m f.width x input last) e

input_says : (s : Slot) (v : View) (f : Field) (interrupt taken : Bool) (from : Feed) → f.source ≡ from → AllByRecursion (Says s v f) (input_effects interrupt taken from)
input_says s v f interrupt taken feed.Off e = tt
input_says s v f interrupt taken feed.Pin e = tt
input_says s v f true taken (feed.Item i) e = (λ n u. ap (λ x. fed n u x (codes "in$" ++ f.path)) e, tt)
input_says s v f false taken (feed.Item i) e = when_says (Says s v f) taken (effect.Takes i) (λ h n u. ap (λ x. fed n u x (codes "in$" ++ f.path)) e)

chosen : (p l o : Bool) (from x : ℕ) → p ≡ false → l ≡ true → (if p then 0 else (if l && o then from else x)) ≡ (if o then from else x)
chosen p l o from x e h = ap (λ q. if q then 0 else (if l && o then from else x)) e ∙ ap (λ q. if q && o then from else x) h

gate_chosen : (f : Field) → is_loaded f ≡ true → (x from y : ℕ) → loaded f x from y ≡ if is_open f.gate y then from else x
gate_chosen f h x from y = chosen f.pulse (loads f) (is_open f.gate y) from x (false-of_not f.pulse (and-left (not f.pulse) (loads f) h)) (and-right (not f.pulse) (loads f) h)

load_says : (s : Slot) (v : View) (f : Field) (g : Gate) → f.gate ≡ g → is_loaded f ≡ true → Says s v f (load_effect g)
load_says s v f gate.Always e h = λ x from y. gate_chosen f h x from y ∙ ap (λ q. if is_open q y then from else x) e
load_says s v f (gate.High i) e h = (e, λ x from y. gate_chosen f h x from y ∙ ap (λ q. if is_open q y then from else x) e)
load_says s v f (gate.Low i) e h = (e, λ x from y. gate_chosen f h x from y ∙ ap (λ q. if is_open q y then from else x) e)

loads_say : (s : Slot) (v : View) (f : Field) (c : Class) → f.class ≡ c → AllByRecursion (Says s v f) (cond (is_wire c) (effect.IsWire ∷ []) (when (is_loaded f) (load_effect f.gate)))
loads_say s v f Storage e = when_says (Says s v f) (is_loaded f) (load_effect f.gate) (λ h. load_says s v f f.gate refl h)
loads_say s v f Wire e = (λ n u k. ap (λ c. class_value n u c k f) e, tt)
loads_say s v f Constant e = when_says (Says s v f) (is_loaded f) (load_effect f.gate) (λ h. load_says s v f f.gate refl h)

source_says : (s : Slot) (v : View) (f : Field) → AllByRecursion (Says s v f) (source_effects f)
source_says s v f =
    let P = Says s v f in
    let pulse = when f.pulse effect.Pulse in
    let latches = when (is_interrupt f.latch) (effect.Latches f.latch) in
    let inputs = input_effects (is_interrupt f.latch) (loads f) f.source in
    each-append P (pulse ++ latches ++ inputs) (load_effects f)
    (each-append P (pulse ++ latches) inputs
    (each-append P pulse latches
    (when_says P f.pulse effect.Pulse (λ h x from g. ap (λ t. if t then 0 else (if loads f && is_open f.gate g then from else x)) h))
    (when_says P (is_interrupt f.latch) (effect.Latches f.latch) (λ h. latch_says f.latch f refl)))
    (input_says s v f (is_interrupt f.latch) (loads f) f.source refl))
    (loads_say s v f f.class refl)

-- Counts

counts_of : (f : Field) (c : Count) → f.count ≡ Some c → (n : Now) (u : ItemValues) (x : ℕ) (high low : Option Level) → c.high ≡ high → c.low ≡ low
    → counts n u f x ≡ counted f.width x (up n u f) (down n u f) (option_map (level_value u) high) (option_map (level_value u) low)
counts_of f c e n u x high low h l = ap (λ (o : Option Count). option_map_or (λ (k : Count). counted f.width x (up n u f) (down n u f) (option_map (level_value u) k.high) (option_map (level_value u) k.low)) o x) e
    ∙ ap (λ o. counted f.width x (up n u f) (down n u f) (option_map (level_value u) o) (option_map (level_value u) c.low)) h
    ∙ ap (λ o. counted f.width x (up n u f) (down n u f) (option_map (level_value u) high) (option_map (level_value u) o)) l

pub up_of : (f : Field) (c : Count) → f.count ≡ Some c → (p : Option Part) → c.up ≡ p → (n : Now) (u : ItemValues) → up n u f ≡ step n u p (codes "incr$" ++ f.path) (codes "incrvalue$" ++ f.path)
up_of f c e p is n u = ap (λ (o : Option Count). option_map_or (λ (k : Count). step n u k.up (codes "incr$" ++ f.path) (codes "incrvalue$" ++ f.path)) o 0) e ∙ ap (λ o. step n u o (codes "incr$" ++ f.path) (codes "incrvalue$" ++ f.path)) is

pub down_of : (f : Field) (c : Count) → f.count ≡ Some c → (p : Option Part) → c.down ≡ p → (n : Now) (u : ItemValues) → down n u f ≡ step n u p (codes "decr$" ++ f.path) (codes "decrvalue$" ++ f.path)
down_of f c e p is n u = ap (λ (o : Option Count). option_map_or (λ (k : Count). step n u k.down (codes "decr$" ++ f.path) (codes "decrvalue$" ++ f.path)) o 0) e ∙ ap (λ o. step n u o (codes "decr$" ++ f.path) (codes "decrvalue$" ++ f.path)) is

stop_up_says : (s : Slot) (v : View) (f : Field) (c : Count) → f.count ≡ Some c → (h : Option Level) → c.high ≡ h → Says s v f (stop_up h)
stop_up_says s v f c e None is = λ n u x none. counts_of f c e n u x None c.low is refl
    ∙ ap (λ d. counted f.width x (up n u f) d None (option_map (level_value u) c.low)) none ∙ wraps_up f.width x (up n u f) (option_map (level_value u) c.low)
stop_up_says s v f c e (Some l) is = λ n u x some past. counts_of f c e n u x (Some l) c.low is refl
    ∙ stops_up f.width x (up n u f) (down n u f) (level_value u l) (option_map (level_value u) c.low) some past

stop_down_says : (s : Slot) (v : View) (f : Field) (c : Count) → f.count ≡ Some c → (l : Option Level) → c.low ≡ l → Says s v f (stop_down l)
stop_down_says s v f c e None is = λ n u x none. counts_of f c e n u x c.high None refl is
    ∙ ap (λ d. counted f.width x d (down n u f) (option_map (level_value u) c.high) None) none ∙ wraps_down f.width x (down n u f) (option_map (level_value u) c.high)
stop_down_says s v f c e (Some l) is = λ n u x none some past. counts_of f c e n u x c.high (Some l) refl is
    ∙ ap (λ d. counted f.width x d (down n u f) (option_map (level_value u) c.high) (Some (level_value u l))) none
    ∙ stops_down f.width x (down n u f) (level_value u l) (option_map (level_value u) c.high) some past

up_says : (s : Slot) (v : View) (f : Field) (c : Count) → f.count ≡ Some c → (p : Option Part) → c.up ≡ p → AllByRecursion (Says s v f) (up_effects p c.high)
up_says s v f c e None is = tt
up_says s v f c e (Some p) is = (λ n u. up_of f c e (Some p) is n u, (stop_up_says s v f c e c.high refl, tt))

down_says : (s : Slot) (v : View) (f : Field) (c : Count) → f.count ≡ Some c → (p : Option Part) → c.down ≡ p → AllByRecursion (Says s v f) (down_effects p c.low)
down_says s v f c e None is = tt
down_says s v f c e (Some p) is = (λ n u. down_of f c e (Some p) is n u, (stop_down_says s v f c e c.low refl, tt))

threshold_says : (s : Slot) (v : View) (f : Field) (c : Count) → f.count ≡ Some c → AllByRecursion (Says s v f) (threshold_effects f.width c)
threshold_says s v f c e =
    let above = when (not (is_number (ones f.width) c.above)) (effect.UpperThreshold c.above) in
    let below = when (not (is_number 0 c.below)) (effect.LowerThreshold c.below) in
    each-append (Says s v f) above below
    (when_says (Says s v f) (not (is_number (ones f.width) c.above)) (effect.UpperThreshold c.above) (λ h b n u k at.
    ap (λ (o : Option Field). option_map_or (λ (g : Field). option_map_or (λ (d : Count). bit_of (nat_le (level_value u d.above) (u (item.Field k)))) g.count 0) o 0) at
    ∙ ap (λ (o : Option Count). option_map_or (λ (d : Count). bit_of (nat_le (level_value u d.above) (u (item.Field k)))) o 0) e))
    (when_says (Says s v f) (not (is_number 0 c.below)) (effect.LowerThreshold c.below) (λ h b n u k at.
    ap (λ (o : Option Field). option_map_or (λ (g : Field). option_map_or (λ (d : Count). bit_of (nat_le (u (item.Field k)) (level_value u d.below))) g.count 0) o 0) at
    ∙ ap (λ (o : Option Count). option_map_or (λ (d : Count). bit_of (nat_le (u (item.Field k)) (level_value u d.below))) o 0) e))

count_says : (s : Slot) (v : View) (f : Field) (o : Option Count) → f.count ≡ o → AllByRecursion (Says s v f) (count_effects f.width o)
count_says s v f None e = tt
count_says s v f (Some c) e = each-append (Says s v f) (up_effects c.up c.high ++ down_effects c.down c.low) (threshold_effects f.width c)
    (each-append (Says s v f) (up_effects c.up c.high) (down_effects c.down c.low) (up_says s v f c e c.up refl) (down_says s v f c e c.down refl))
    (threshold_says s v f c e)

-- Changes and outputs

-- the value before it is set or cleared
abbrev latest : Now → ItemValues → ℕ → Field → ℕ → ℕ
latest n u k f x = latched f.latch f.width (counts n u f (loaded f x (source_value n u f) (gated n u f.gate (codes "we$") (codes "wel$") f.path))) (source_value n u f) (n.kept (Last k))

all_set : (w v set clear : ℕ) → set ≡ 1 → clear ≢ 1 → set_or_cleared w v set clear ≡ ones w
all_set w v set clear h free = ap (λ c. if c then 0 else (if set == 1 then ones w else v)) (not-number clear 1 free) ∙ ap (λ n. if n == 1 then ones w else v) h

all_cleared : (w v set clear : ℕ) → clear ≡ 1 → set_or_cleared w v set clear ≡ 0
all_cleared w v set clear h = ap (λ n. if n == 1 then 0 else (if set == 1 then ones w else v)) h

set_says : (f : Field) → SaysOfSet f.set f
set_says f n u k x h free = ap (λ v. masked f.keep f.width x v (mask_value u f.keep))
    (all_set f.width (latest n u k f x) (fed n u f.set (codes "hwset$" ++ f.path)) (fed n u f.clear (codes "hwclr$" ++ f.path)) h free)

clear_says : (f : Field) → SaysOfClear f.clear f
clear_says f n u k x h = ap (λ v. masked f.keep f.width x v (mask_value u f.keep))
    (all_cleared f.width (latest n u k f x) (fed n u f.set (codes "hwset$" ++ f.path)) (fed n u f.clear (codes "hwclr$" ++ f.path)) h)

keep_says : (f : Field) → SaysOfKeep f.keep f
keep_says f n u k x i h g hidden =
    let v = set_or_cleared f.width (latest n u k f x) (fed n u f.set (codes "hwset$" ++ f.path)) (fed n u f.clear (codes "hwclr$" ++ f.path)) in
    masked-bit f.keep f.width x v (mask_value u f.keep) i h g ∙ ap (λ c. cond c (bit_at v i) (bit_at x i)) hidden

change_says : (s : Slot) (v : View) (f : Field) → AllByRecursion (Says s v f) (change_effects f)
change_says s v f =
    let P = Says s v f in
    let sets = when (is_fed f.set) (effect.SetWhile f.set) in
    let clears = when (is_fed f.clear) (effect.ClearedWhile f.clear) in
    each-append P (sets ++ clears) (when (is_on f.keep) (effect.Keeps f.keep))
    (each-append P sets clears
    (when_says P (is_fed f.set) (effect.SetWhile f.set) (λ h. set_says f))
    (when_says P (is_fed f.clear) (effect.ClearedWhile f.clear) (λ h. clear_says f)))
    (when_says P (is_on f.keep) (effect.Keeps f.keep) (λ h. keep_says f))

interrupt_says : (s : Slot) (v : View) (f : Field) (m : Mask) → f.enable ≡ m → Says s v f (cond (is_on m) (effect.Interrupts m) effect.AllInterrupt)
interrupt_says s v f mask.Off e = λ x y. ap (λ m. counting m f.width x y) e
interrupt_says s v f (mask.Enable i) e = (e, λ u x k h g. ap (λ m. bit_at (counting m f.width u x) k) e ∙ counting-bit (mask.Enable i) f.width u x k h g)
interrupt_says s v f (mask.Mask i) e = (e, λ u x k h g. ap (λ m. bit_at (counting m f.width u x) k) e ∙ counting-bit (mask.Mask i) f.width u x k h g)

constant_says : (s : Slot) (v : View) (f : Field) (c : Class) → f.class ≡ c → is_constant c ≡ true → Says s v f effect.IsConstant
constant_says s v f Storage e h = cc h
constant_says s v f Wire e h = cc h
constant_says s v f Constant e h = λ n u k. ap (λ c. class_value n u c k f) e

shown_says : (s : Slot) (v : View) (f : Field) (os : List Shown) → ((k : ℕ) (o : Shown) → slice_get os k ≡ Some o → (j : ℕ) × (slice_get f.shown j ≡ Some o)) → AllByRecursion (Says s v f) (map effect.Shows os)
shown_says s v f [] h = tt
shown_says s v f (o ∷ os) h = (h 0 o refl, shown_says s v f os (λ k p e. h (suc k) p e))

output_says : (s : Slot) (v : View) (f : Field) → AllByRecursion (Says s v f) (output_effects f)
output_says s v f =
    let P = Says s v f in
    let interrupts = when (is_interrupt f.latch) (interrupt_effect f) in
    let halts = when (is_interrupt f.latch && is_on f.halt) (effect.Halts f.halt) in
    let first = when f.hw_first effect.HardwareFirst in
    let constant = when (is_constant f.class) effect.IsConstant in
    each-append P (interrupts ++ halts ++ first ++ constant) (map effect.Shows f.shown)
    (each-append P (interrupts ++ halts ++ first) constant
    (each-append P (interrupts ++ halts) first
    (each-append P interrupts halts
    (when_says P (is_interrupt f.latch) (interrupt_effect f) (λ h. interrupt_says s v f f.enable refl))
    (when_says P (is_interrupt f.latch && is_on f.halt) (effect.Halts f.halt) (λ h. (refl, λ u x k g l. counting-bit f.halt f.width u x k g l))))
    (when_says P f.hw_first effect.HardwareFirst (λ h b n u k x.
    ap (λ t. if t then hardware n u k f (software b n u n.access k f x) else software b n u n.access k f (hardware n u k f x)) h)))
    (when_says P (is_constant f.class) effect.IsConstant (λ h. constant_says s v f f.class refl h)))
    (shown_says s v f f.shown (λ k o e. (k, e)))

pub hardware_says : (s : Slot) (v : View) (f : Field) → AllByRecursion (Says s v f) (hardware_effects f)
hardware_says s v f =
    let P = Says s v f in
    each-append P (source_effects f ++ count_effects f.width f.count ++ change_effects f) (output_effects f)
    (each-append P (source_effects f ++ count_effects f.width f.count) (change_effects f)
    (each-append P (source_effects f) (count_effects f.width f.count) (source_says s v f) (count_says s v f f.count refl))
    (change_says s v f))
    (output_says s v f)
