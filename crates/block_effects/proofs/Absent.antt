-- Where no effect is said, nothing else happens.
use Rattle.std.proofs.Common.{◌≡◌, ◌∙◌, ℕ, ◌^◌, ◌<◌, ◌==◌, Bool, true, false, not, ◌&&◌, cond, if◌then◌else◌, List, [], ◌∷◌, ◌++◌, codes, Option, None, Some, refl, sym, ap}
use Rattle.std.specs.List.{list_any}
use Rattle.std.specs.Option.{option_map, option_map_or}
use Rattle.rb_model.specs.declared.kinds.Class.{Class}
use Rattle.rb_model.specs.declared.kinds.Class.TheVariants.{Storage, Wire, Constant}
use Rattle.rb_model.specs.declared.kinds.Count.{Count}
use Rattle.rb_model.specs.declared.kinds.Feed.{Feed}
use Rattle.rb_model.specs.declared.kinds.Feed.TheVariants as feed
use Rattle.rb_model.specs.declared.kinds.Gate.{Gate}
use Rattle.rb_model.specs.declared.kinds.Gate.TheVariants as gate
use Rattle.rb_model.specs.declared.kinds.Latch.{Latch}
use Rattle.rb_model.specs.declared.kinds.Latch.TheVariants as latch
use Rattle.rb_model.specs.declared.kinds.Level.{Level}
use Rattle.rb_model.specs.declared.kinds.Mask.{Mask}
use Rattle.rb_model.specs.declared.kinds.Mask.TheVariants as mask
use Rattle.rb_model.specs.declared.kinds.OnRead.{OnRead}
use Rattle.rb_model.specs.declared.kinds.OnRead.TheVariants as on_read
use Rattle.rb_model.specs.declared.kinds.OnWrite.{OnWrite}
use Rattle.rb_model.specs.declared.kinds.OnWrite.TheVariants as on_write
use Rattle.rb_model.specs.declared.kinds.Part.{Part}
use Rattle.rb_model.specs.declared.block.Field.{Field}
use Rattle.rb_model.specs.declared.block.Slot.{Slot}
use Rattle.rb_model.specs.declared.block.View.{View}
use Rattle.rb_model.specs.Effects.{after_read, after_write, counted, finished, has_read_effect, is_gated, is_open, latched, loaded, loads, masked, written}
use Rattle.rb_model.specs.Items.{Now, ItemValues, down, fed, gated, is_interrupt, is_on, level_value, mask_value, source_value, up}
use Rattle.rb_model.specs.Kept.{Last, is_storage, when}
use Rattle.rb_model.specs.Machine.{counts, hardware}
use Rattle.rb_model.specs.SoundField.{is_fed, is_wire}
use Rattle.block_effects.specs.declared.kinds.Effect.{Effect}
use Rattle.block_effects.specs.declared.kinds.Effect.TheVariants as effect
use Rattle.block_effects.specs.Effects.{access_effects, behind_effects, bits_effect, change_effects, count_effects, down_effects, effects, has_write_effect, hardware_effects, input_effects, is_loaded, is_whole, load_effect, load_effects, output_effects, reset_effects, source_effects, threshold_effects, up_effects}
use Rattle.block_effects.specs.Quiet.{is_of_hardware, is_of_reads, is_of_writes, lacks}
use Rattle.block_effects.proofs.Counting.{counts_none}
use Rattle.block_effects.proofs.Hardware.{down_of, up_of}
use Rattle.block_effects.proofs.Sayings.{when_absent}
use Rattle.plain_lemmas.proofs.Bools.{false-of_not, or-left_false, or-right_false}
use Rattle.plain_lemmas.proofs.Lists.{list_any-append}

-- the parts of a list that lacks what a test asks for

none_left : (p : Effect → Bool) (xs ys : List Effect) → list_any p (xs ++ ys) ≡ false → list_any p xs ≡ false
none_left p xs ys h = or-left_false (list_any p xs) (list_any p ys) (sym (list_any-append p xs ys) ∙ h)

none_right : (p : Effect → Bool) (xs ys : List Effect) → list_any p (xs ++ ys) ≡ false → list_any p ys ≡ false
none_right p xs ys h = or-right_false (list_any p xs) (list_any p ys) (sym (list_any-append p xs ys) ∙ h)

none_of : (p : Effect → Bool) (es : List Effect) → lacks p es ≡ true → list_any p es ≡ false
none_of p es h = false-of_not (list_any p es) h

abbrev access_none : (Effect → Bool) → Slot → View → Field → Type 0
access_none p s v f = list_any p (access_effects s v f) ≡ false

access_of : (p : Effect → Bool) (s : Slot) (v : View) (f : Field) → lacks p (effects s v f) ≡ true → access_none p s v f
access_of p s v f h = none_left p (access_effects s v f) (behind_effects v f) (none_left p (access_effects s v f ++ behind_effects v f) (reset_effects f) (none_of p (effects s v f) h))

-- Writes and reads

abbrev bits_part : Slot → Field → List Effect
bits_part s f = when (not (is_whole s f)) (bits_effect s f)

abbrev once_part : View → List Effect
once_part v = when (v.writes && v.once) effect.Once

abbrev write_part : View → List Effect
write_part v = when (v.writes && has_write_effect v.on_write) (effect.Writes v.on_write)

abbrev read_part : View → List Effect
read_part v = when (has_read_effect v.on_read) (effect.Reads v.on_read)

abbrev gate_part : View → List Effect
gate_part v = when (v.writes && is_gated v.gate) (effect.WritesWhile v.gate)

second : (a b : Bool) → a ≡ true → (a && b) ≡ false → b ≡ false
second true b e h = h
second false b e h = cc e

plain_write : (o : OnWrite) (w x d : ℕ) → has_write_effect o ≡ false → written o w x d ≡ d
plain_write on_write.Off w x d h = refl
plain_write on_write.WoSet w x d h = cc h
plain_write on_write.WoClr w x d h = cc h
plain_write on_write.WoT w x d h = cc h
plain_write on_write.WzS w x d h = cc h
plain_write on_write.WzC w x d h = cc h
plain_write on_write.WzT w x d h = cc h
plain_write on_write.WClr w x d h = cc h
plain_write on_write.WSet w x d h = cc h

open_gate : (g : Gate) (x : ℕ) → is_gated g ≡ false → is_open g x ≡ true
open_gate gate.Always x h = refl
open_gate (gate.High i) x h = cc h
open_gate (gate.Low i) x h = cc h

stored : (v : View) (w g done x d : ℕ) → v.writes ≡ true → v.once ≡ false → has_write_effect v.on_write ≡ false → is_gated v.gate ≡ false → after_write v w g done x d ≡ d
stored v w g done x d writes once plain free =
    ap (λ t. if t && is_open v.gate g && not (v.once && (done == 1)) then written v.on_write w x d else x) writes
    ∙ ap (λ t. if true && t && not (v.once && (done == 1)) then written v.on_write w x d else x) (open_gate v.gate g free)
    ∙ ap (λ t. if true && true && not (t && (done == 1)) then written v.on_write w x d else x) once
    ∙ plain_write v.on_write w x d plain

pub writes_store : (s : Slot) (v : View) (f : Field) → lacks is_of_writes (effects s v f) ≡ true → v.writes ≡ true → (g done x d : ℕ) → after_write v f.width g done x d ≡ d
writes_store s v f h writes g done x d =
    let p = is_of_writes in
    let all = access_of p s v f h in
    let four = none_left p (bits_part s f ++ once_part v ++ write_part v ++ read_part v) (gate_part v) all in
    let three = none_left p (bits_part s f ++ once_part v ++ write_part v) (read_part v) four in
    let two = none_left p (bits_part s f ++ once_part v) (write_part v) three in
    let once = when_absent p (v.writes && v.once) effect.Once refl (none_right p (bits_part s f) (once_part v) two) in
    let plain = when_absent p (v.writes && has_write_effect v.on_write) (effect.Writes v.on_write) refl (none_right p (bits_part s f ++ once_part v) (write_part v) three) in
    let free = when_absent p (v.writes && is_gated v.gate) (effect.WritesWhile v.gate) refl (none_right p (bits_part s f ++ once_part v ++ write_part v ++ read_part v) (gate_part v) all) in
    stored v f.width g done x d writes (second v.writes v.once writes once) (second v.writes (has_write_effect v.on_write) writes plain) (second v.writes (is_gated v.gate) writes free)

plain_read : (o : OnRead) (w x : ℕ) → has_read_effect o ≡ false → after_read o w x ≡ x
plain_read on_read.Off w x h = refl
plain_read on_read.RClr w x h = cc h
plain_read on_read.RSet w x h = cc h

pub reads_leave : (s : Slot) (v : View) (f : Field) → lacks is_of_reads (effects s v f) ≡ true → (x : ℕ) → after_read v.on_read f.width x ≡ x
reads_leave s v f h x =
    let p = is_of_reads in
    let four = none_left p (bits_part s f ++ once_part v ++ write_part v ++ read_part v) (gate_part v) (access_of p s v f h) in
    plain_read v.on_read f.width x (when_absent p (has_read_effect v.on_read) (effect.Reads v.on_read) refl (none_right p (bits_part s f ++ once_part v ++ write_part v) (read_part v) four))

-- Hardware

behind_own : (v : View) (f : Field) → v.alias ≡ false → behind_effects v f ≡ hardware_effects f
behind_own v f e = ap (λ a. cond a (effect.ViewOf v.field ∷ []) (hardware_effects f)) e

abbrev hw : Effect → Bool
hw = is_of_hardware

hardware_none : (s : Slot) (v : View) (f : Field) → v.alias ≡ false → lacks hw (effects s v f) ≡ true → list_any hw (hardware_effects f) ≡ false
hardware_none s v f e h = ap (list_any hw) (sym (behind_own v f e)) ∙ none_right hw (access_effects s v f) (behind_effects v f) (none_left hw (access_effects s v f ++ behind_effects v f) (reset_effects f) (none_of hw (effects s v f) h))

kept_class : (c : Class) → is_storage c ≡ true → is_wire c ≡ false
kept_class Storage h = refl
kept_class Wire h = cc h
kept_class Constant h = refl

load_is_of : (g : Gate) → hw (load_effect g) ≡ true
load_is_of gate.Always = refl
load_is_of (gate.High i) = refl
load_is_of (gate.Low i) = refl

not_loaded : (f : Field) → f.pulse ≡ false → is_loaded f ≡ false → loads f ≡ false
not_loaded f e h = ap (λ t. not t && loads f) (sym e) ∙ h

not_latched : (l : Latch) (w x input last : ℕ) → is_interrupt l ≡ false → latched l w x input last ≡ x
not_latched latch.Off w x input last h = refl
not_latched (latch.Bits e) w x input last h = cc h
not_latched (latch.Whole e) w x input last h = cc h
not_latched latch.Plain w x input last h = refl

not_fed : (n : Now) (u : ItemValues) (from : Feed) (name : List ℕ) → is_fed from ≡ false → fed n u from name ≡ 0
not_fed n u feed.Off name h = refl
not_fed n u feed.Pin name h = cc h
not_fed n u (feed.Item i) name h = cc h

not_masked : (m : Mask) (w old x y : ℕ) → is_on m ≡ false → masked m w old x y ≡ x
not_masked mask.Off w old x y h = refl
not_masked (mask.Enable i) w old x y h = cc h
not_masked (mask.Mask i) w old x y h = cc h

no_up : (p : Option Part) (high : Option Level) → list_any hw (up_effects p high) ≡ false → p ≡ None
no_up None high h = refl
no_up (Some p) high h = cc h

no_down : (p : Option Part) (low : Option Level) → list_any hw (down_effects p low) ≡ false → p ≡ None
no_down None low h = refl
no_down (Some p) low h = cc h

not_counted : (f : Field) (o : Option Count) → f.count ≡ o → list_any hw (count_effects f.width o) ≡ false → (n : Now) (u : ItemValues) (x : ℕ) → x < 2 ^ f.width → counts n u f x ≡ x
not_counted f None e h n u x fits =
    ap (λ (o : Option Count). option_map_or (λ (k : Count). counted f.width x (up n u f) (down n u f) (option_map (level_value u) k.high) (option_map (level_value u) k.low)) o x) e
not_counted f (Some c) e h n u x fits =
    let both = none_left hw (up_effects c.up c.high ++ down_effects c.down c.low) (threshold_effects f.width c) h in
    let none_up = up_of f c e None (no_up c.up c.high (none_left hw (up_effects c.up c.high) (down_effects c.down c.low) both)) n u in
    let none_down = down_of f c e None (no_down c.down c.low (none_right hw (up_effects c.up c.high) (down_effects c.down c.low) both)) n u in
    ap (λ (o : Option Count). option_map_or (λ (k : Count). counted f.width x (up n u f) (down n u f) (option_map (level_value u) k.high) (option_map (level_value u) k.low)) o x) e
    ∙ ap (λ a. counted f.width x a (down n u f) (option_map (level_value u) c.high) (option_map (level_value u) c.low)) none_up
    ∙ ap (λ a. counted f.width x 0 a (option_map (level_value u) c.high) (option_map (level_value u) c.low)) none_down
    ∙ counts_none f.width x (option_map (level_value u) c.high) (option_map (level_value u) c.low) fits

-- what is left of hardware where nothing acts
pub record IsIdle (f : Field) : Type 0 where
  pub pulse : f.pulse ≡ false
  pub loads : loads f ≡ false
  pub latch : is_interrupt f.latch ≡ false
  pub count : list_any hw (count_effects f.width f.count) ≡ false
  pub set : is_fed f.set ≡ false
  pub clear : is_fed f.clear ≡ false
  pub keep : is_on f.keep ≡ false

idle_stays : (f : Field) → IsIdle f → (n : Now) (u : ItemValues) (k x : ℕ) → x < 2 ^ f.width → hardware n u k f x ≡ x
idle_stays f idle n u k x fits =
    let from = source_value n u f in
    let gate_at = gated n u f.gate (codes "we$") (codes "wel$") f.path in
    let last = n.kept (Last k) in
    let set = fed n u f.set (codes "hwset$" ++ f.path) in
    let clear = fed n u f.clear (codes "hwclr$" ++ f.path) in
    let bits = mask_value u f.keep in
    let load : loaded f x from gate_at ≡ x = ap (λ t. if t then 0 else (if loads f && is_open f.gate gate_at then from else x)) idle.pulse ∙ ap (λ t. if t && is_open f.gate gate_at then from else x) idle.loads in
    ap (λ y. finished f x (latched f.latch f.width (counts n u f y) from last) set clear bits) load
    ∙ ap (λ y. finished f x (latched f.latch f.width y from last) set clear bits) (not_counted f f.count refl idle.count n u x fits)
    ∙ ap (λ y. finished f x y set clear bits) (not_latched f.latch f.width x from last idle.latch)
    ∙ ap (λ a. finished f x x a clear bits) (not_fed n u f.set (codes "hwset$" ++ f.path) idle.set)
    ∙ ap (λ a. finished f x x 0 a bits) (not_fed n u f.clear (codes "hwclr$" ++ f.path) idle.clear)
    ∙ not_masked f.keep f.width x x bits idle.keep

idle_where : (f : Field) → list_any hw (hardware_effects f) ≡ false → is_storage f.class ≡ true → IsIdle f
idle_where f h kept =
    let three = none_left hw (source_effects f ++ count_effects f.width f.count ++ change_effects f) (output_effects f) h in
    let two = none_left hw (source_effects f ++ count_effects f.width f.count) (change_effects f) three in
    let sources = none_left hw (source_effects f) (count_effects f.width f.count) two in
    let changes = none_right hw (source_effects f ++ count_effects f.width f.count) (change_effects f) three in
    let pulse = when f.pulse effect.Pulse in
    let latches = when (is_interrupt f.latch) (effect.Latches f.latch) in
    let inputs = input_effects (is_interrupt f.latch) (loads f) f.source in
    let sets = when (is_fed f.set) (effect.SetWhile f.set) in
    let clears = when (is_fed f.clear) (effect.ClearedWhile f.clear) in
    let keeps = when (is_on f.keep) (effect.Keeps f.keep) in
    let inputs_none = none_left hw (pulse ++ latches ++ inputs) (load_effects f) sources in
    let latches_none = none_left hw (pulse ++ latches) inputs inputs_none in
    let no_pulse = when_absent hw f.pulse effect.Pulse refl (none_left hw pulse latches latches_none) in
    let loading = none_right hw (pulse ++ latches ++ inputs) (load_effects f) sources in
    let plain : list_any hw (when (is_loaded f) (load_effect f.gate)) ≡ false = ap (λ t. list_any hw (cond t (effect.IsWire ∷ []) (when (is_loaded f) (load_effect f.gate)))) (sym (kept_class f.class kept)) ∙ loading in
    let two_changes = none_left hw (sets ++ clears) keeps changes in
    record {
      pulse = no_pulse;
      loads = not_loaded f no_pulse (when_absent hw (is_loaded f) (load_effect f.gate) (load_is_of f.gate) plain);
      latch = when_absent hw (is_interrupt f.latch) (effect.Latches f.latch) refl (none_right hw pulse latches latches_none);
      count = none_right hw (source_effects f) (count_effects f.width f.count) two;
      set = when_absent hw (is_fed f.set) (effect.SetWhile f.set) refl (none_left hw sets clears two_changes);
      clear = when_absent hw (is_fed f.clear) (effect.ClearedWhile f.clear) refl (none_right hw sets clears two_changes);
      keep = when_absent hw (is_on f.keep) (effect.Keeps f.keep) refl (none_right hw (sets ++ clears) keeps changes);
    }

pub hardware_leaves : (s : Slot) (v : View) (f : Field) → v.alias ≡ false → lacks is_of_hardware (effects s v f) ≡ true → is_storage f.class ≡ true
    → (n : Now) (u : ItemValues) (k x : ℕ) → x < 2 ^ f.width → hardware n u k f x ≡ x
hardware_leaves s v f own h kept n u k x fits = idle_stays f (idle_where f (hardware_none s v f own h) kept) n u k x fits
