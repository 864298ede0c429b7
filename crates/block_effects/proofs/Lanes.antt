-- Which bits of a word a read and a write have of which fields.
use Rattle.std.proofs.Common.{◌≡◌, ◌∙◌, ◌⊎◌, inl, inr, ℕ, zero, suc, ◌+◌, ◌-◌, ◌*◌, ◌/◌, ◌%◌, ◌^◌, ◌<◌, ◌≤◌, ◌==◌, Bool, true, false, not, ◌&&◌, IsTrue, cond, if◌then◌else◌, bit_or, fold, get_or, max, nat_le, nat_lt, List, [], ◌∷◌, slice_get, Some, add-zero, refl, sym, ap, subst, arith}
use Rattle.std.specs.Int.{bit_at}
use Rattle.std.specs.List.{AllPairs, list_any}
use Rattle.std.specs.Option.{option_map_or}
use Rattle.std.proofs.Math.Nat.{mod-lt}
use Rattle.std.proofs.lemmas.Nat.{pow_pos, shr-shr, shr_split}
use Rattle.std.proofs.lemmas.Nat.Bits.{bit_at-zero, bit_at_above, bit_at_cat_high, bit_at_cat_low, bit_at_or, same_from_bits_below}
use Rattle.rb_base.specs.Bits.{part as bits_of}
use Rattle.rb_model.specs.declared.block.Block.{Block}
use Rattle.rb_model.specs.declared.block.Field.{Field}
use Rattle.rb_model.specs.declared.block.Slot.{Slot}
use Rattle.rb_model.specs.declared.block.View.{View}
use Rattle.rb_model.specs.declared.block.Word.{Word}
use Rattle.rb_model.specs.declared.kinds.RefItem.TheVariants as item
use Rattle.rb_model.specs.Effects.{after_write, is_open, written}
use Rattle.rb_model.specs.Items.{Now, ItemValues, Read, Write}
use Rattle.rb_model.specs.Kept.{Done}
use Rattle.rb_model.specs.Machine.{read_data, slot_bits, slot_value, slot_written, software, view_gate}
use Rattle.rb_model.specs.References.{Each}
use Rattle.rb_model.specs.Sound.{SlotIsSound, StandTogether, WordIsSound, share_bit, view_passes}
use Rattle.block_effects.specs.Lanes.{covers, shows_at}
use Rattle.plain_lemmas.proofs.Bools.{and-both, and-both_true, or-left_false, or-right_false}
use Rattle.plain_lemmas.proofs.Lists.{any-get, get-at, get-within}
use Rattle.plain_lemmas.proofs.Numbers.{at-most, below-nat_lt, less, most}

-- Bits of parts

bit_of_part : (n lo m k : ℕ) → k < m → bit_at (n / 2 ^ lo % 2 ^ m) k ≡ bit_at n (lo + k)
bit_of_part n lo m k below =
    let high = n / 2 ^ lo in
    sym (bit_at_cat_low (high / 2 ^ m) m (high % 2 ^ m) k below) ∙ ap (λ u. bit_at u k) (shr_split high m) ∙ ap (λ u. u % 2) (shr-shr n lo k)

top : (from bits : ℕ) → 0 < bits → from + bits - 1 - from + 1 ≡ bits
top from bits some = omega arith

part_bit : (n from bits k : ℕ) → 0 < bits → k < bits → bit_at (bits_of n (from + bits - 1) from) k ≡ bit_at n (from + k)
part_bit n from bits k some below = ap (λ m. bit_at (n / 2 ^ from % 2 ^ m) k) (top from bits some) ∙ bit_of_part n from bits k below

part_fits : (n from bits : ℕ) → 0 < bits → bits_of n (from + bits - 1) from < 2 ^ bits
part_fits n from bits some = subst (λ m. n / 2 ^ from % 2 ^ m < 2 ^ bits) (sym (top from bits some)) (mod-lt (n / 2 ^ from) (pow_pos bits))

-- a part at its place in a word

shifted_on : (x low i : ℕ) → low ≤ i → bit_at (x * 2 ^ low) i ≡ bit_at x (i - low)
shifted_on x low i h = ap (λ n. bit_at n i) (sym (add-zero (x * 2 ^ low))) ∙ bit_at_cat_high x low 0 i (pow_pos low) h

shifted_below : (x low i : ℕ) → i < low → bit_at (x * 2 ^ low) i ≡ 0
shifted_below x low i h = ap (λ n. bit_at n i) (sym (add-zero (x * 2 ^ low))) ∙ bit_at_cat_low x low 0 i h ∙ bit_at-zero i

shifted_above : (x low bits i : ℕ) → x < 2 ^ bits → low + bits ≤ i → bit_at (x * 2 ^ low) i ≡ 0
shifted_above x low bits i fits h = let under : low ≤ i = omega arith in let past : bits ≤ i - low = omega arith in shifted_on x low i under ∙ bit_at_above x bits (i - low) fits past

-- Tests of slots

covered : (i : ℕ) (s : Slot) → covers i s ≡ true → (s.low ≤ i) × (i < s.low + s.bits)
covered i s h = let both = and-both (nat_le s.low i) (nat_lt i (s.low + s.bits)) h in (at-most s.low i both.0, less i (s.low + s.bits) both.1)

covers_at : (i : ℕ) (s : Slot) → s.low ≤ i → i < s.low + s.bits → covers i s ≡ true
covers_at i s h g = and-both_true (nat_le s.low i) (nat_lt i (s.low + s.bits)) (most s.low i h) (below-nat_lt i (s.low + s.bits) g)

uncovered : (i : ℕ) (s : Slot) → covers i s ≡ false → (i < s.low) ⊎ (s.low + s.bits ≤ i)
uncovered i s h = go (order i s.low) (order i (s.low + s.bits))
  where
    order : (a c : ℕ) → (a < c) ⊎ (c ≤ a)
    order a c = grind arith

    go : (i < s.low) ⊎ (s.low ≤ i) → (i < s.low + s.bits) ⊎ (s.low + s.bits ≤ i) → (i < s.low) ⊎ (s.low + s.bits ≤ i)
    go (inl a) c = inl a
    go (inr a) (inr c) = inr c
    go (inr a) (inl c) = let no : true ≡ false = sym (covers_at i s a c) ∙ h in cc no

passes : (b : Block) (test : View → Bool) (s : Slot) (v : View) → slice_get b.views s.view ≡ Some v → view_passes b test s ≡ test v
passes b test s v e = ap (λ o. option_map_or test o false) e

each_at : {X : Type 0} (P : X → Type 0) (xs : List X) (k : ℕ) (x : X) → Each P xs → slice_get xs k ≡ Some x → P x
each_at P [] k x h e = cc e
each_at P (y ∷ ys) zero x h e = let same : y ≡ x = cc e in subst P same h.0
each_at P (y ∷ ys) (suc k) x h e = each_at P ys k x h.1 e

-- The read lane

abbrev reads_of : View → Bool
reads_of v = v.reads

abbrev field_bits : ItemValues → Slot → View → ℕ
field_bits u s v = bits_of (u (item.Field v.field)) (s.from + s.bits - 1) s.from

value_of : (b : Block) (u : ItemValues) (s : Slot) (v : View) → slice_get b.views s.view ≡ Some v → slot_value b u s ≡ cond v.reads (field_bits u s v * 2 ^ s.low) 0
value_of b u s v e = ap (λ o. option_map_or (λ (w : View). cond w.reads (field_bits u s w * 2 ^ s.low) 0) o 0) e

bit_on : (b : Block) (u : ItemValues) (s : Slot) (v : View) (i : ℕ) → 0 < s.bits → slice_get b.views s.view ≡ Some v → v.reads ≡ true → covers i s ≡ true
    → bit_at (slot_value b u s) i ≡ bit_at (u (item.Field v.field)) (s.from + (i - s.low))
bit_on b u s v i some e reads h =
    let within = covered i s h in
    let at : s.low ≤ i = within.0 in
    let before : i < s.low + s.bits = within.1 in
    let inside : i - s.low < s.bits = omega arith in
    ap (λ n. bit_at n i) (value_of b u s v e ∙ ap (λ r. cond r (field_bits u s v * 2 ^ s.low) 0) reads)
    ∙ shifted_on (field_bits u s v) s.low i at
    ∙ part_bit (u (item.Field v.field)) s.from s.bits (i - s.low) some inside

bit_off : (b : Block) (u : ItemValues) (w : Word) (s : Slot) (i : ℕ) → SlotIsSound b w s → shows_at b reads_of i s ≡ false → bit_at (slot_value b u s) i ≡ 0
bit_off b u w s i h none = ap (λ n. bit_at n i) (value_of b u s h.view h.of_view) ∙ go h.view.reads refl
  where
    outside : (i < s.low) ⊎ (s.low + s.bits ≤ i) → bit_at (field_bits u s h.view * 2 ^ s.low) i ≡ 0
    outside (inl below) = shifted_below (field_bits u s h.view) s.low i below
    outside (inr above) = shifted_above (field_bits u s h.view) s.low s.bits i (part_fits (u (item.Field h.view.field)) s.from s.bits h.some_bit) above

    not_covered : (c p : Bool) → (c && p) ≡ false → p ≡ true → c ≡ false
    not_covered false p e t = refl
    not_covered true p e t = let no : true ≡ false = sym t ∙ e in cc no

    go : (r : Bool) → h.view.reads ≡ r → bit_at (cond r (field_bits u s h.view * 2 ^ s.low) 0) i ≡ 0
    go false e = bit_at-zero i
    go true e = outside (uncovered i s (not_covered (covers i s) (view_passes b reads_of s) none (passes b reads_of s h.view h.of_view ∙ e)))

max_zero : (n : ℕ) → max n 0 ≡ n
max_zero n = omega arith

zero_max : (n : ℕ) → max 0 n ≡ n
zero_max n = omega arith

abbrev all_or : (f : Slot → ℕ) → ℕ → List Slot → ℕ
all_or f n slots = fold (λ acc s. bit_or acc (f s)) n slots

zeros : (f : Slot → ℕ) (i n : ℕ) (slots : List Slot) → ((j : ℕ) (t : Slot) → slice_get slots j ≡ Some t → bit_at (f t) i ≡ 0) → bit_at (all_or f n slots) i ≡ bit_at n i
zeros f i n [] h = refl
zeros f i n (s ∷ ss) h = zeros f i (bit_or n (f s)) ss (λ j t e. h (suc j) t e) ∙ bit_at_or n (f s) i ∙ ap (max (bit_at n i)) (h 0 s refl) ∙ max_zero (bit_at n i)

alone : (f : Slot → ℕ) (i n : ℕ) (slots : List Slot) (k : ℕ) (s : Slot) → slice_get slots k ≡ Some s → ((j : ℕ) (t : Slot) → slice_get slots j ≡ Some t → (j ≡ k → ⊥) → bit_at (f t) i ≡ 0)
    → bit_at (all_or f n slots) i ≡ max (bit_at n i) (bit_at (f s) i)
alone f i n [] k s e h = cc e
alone f i n (t ∷ ts) zero s e h =
    let same : t ≡ s = cc e in
    zeros f i (bit_or n (f t)) ts (λ j x g. h (suc j) x g (λ q. let no : suc j ≡ 0 = q in cc no)) ∙ bit_at_or n (f t) i ∙ ap (λ (x : Slot). max (bit_at n i) (bit_at (f x) i)) same
alone f i n (t ∷ ts) (suc k) s e h =
    alone f i (bit_or n (f t)) ts k s e (λ j x g no. h (suc j) x g (λ q. no (omega (arith, q))))
    ∙ ap (λ m. max m (bit_at (f s) i)) (bit_at_or n (f t) i ∙ ap (max (bit_at n i)) (h 0 t refl (λ q. let no : 0 ≡ suc k = q in cc no)) ∙ max_zero (bit_at n i))

pair_at : (b : Block) (slots : List Slot) → AllPairs (StandTogether b) slots → (i j : ℕ) (s t : Slot) → i < j → slice_get slots i ≡ Some s → slice_get slots j ≡ Some t → StandTogether b s t
pair_at b slots all i j s t low es et =
    let inside = get-within slots j t et in
    let first : Some (get_or slots i s) ≡ Some s = sym (get-at slots i s (omega (arith, low, inside))) ∙ es in
    let second : Some (get_or slots j s) ≡ Some t = sym (get-at slots j s inside) ∙ et in
    let one : get_or slots i s ≡ s = cc first in
    let two : get_or slots j s ≡ t = cc second in
    subst (λ (u : Slot). StandTogether b u t) one (subst (λ (u : Slot). StandTogether b (get_or slots i s) u) two (all i j s low inside))

both_share : (i : ℕ) (s t : Slot) → covers i s ≡ true → covers i t ≡ true → share_bit s t ≡ true
both_share i s t h g =
    let p = covered i s h in
    let q = covered i t g in
    let a : s.low < t.low + t.bits = omega (arith, p.0, q.1) in
    let c : t.low < s.low + s.bits = omega (arith, q.0, p.1) in
    and-both_true (nat_lt s.low (t.low + t.bits)) (nat_lt t.low (s.low + s.bits)) (below-nat_lt s.low (t.low + t.bits) a) (below-nat_lt t.low (s.low + s.bits) c)

all_three : (c p q : Bool) → c ≡ true → p ≡ true → q ≡ true → IsTrue (c && p && q)
all_three true true true x y z = refl
all_three true true false x y z = cc z
all_three true false q x y z = cc y
all_three false p q x y z = cc x

one_reader : (b : Block) (w : Word) → WordIsSound b w → (i k j : ℕ) (s t : Slot) → slice_get w.slots k ≡ Some s → slice_get w.slots j ≡ Some t → (j ≡ k → ⊥)
    → shows_at b reads_of i s ≡ true → shows_at b reads_of i t ≡ true → ⊥
one_reader b w h i k j s t es et differ hs ht = go (order k j differ)
  where
    order : (k j : ℕ) → (j ≡ k → ⊥) → (k < j) ⊎ (j < k)
    order k j differ = grind arith

    go : (k < j) ⊎ (j < k) → ⊥
    go (inl low) = let p = and-both (covers i s) (view_passes b reads_of s) hs in let q = and-both (covers i t) (view_passes b reads_of t) ht in
        (pair_at b w.slots h.together k j s t low es et).one_reads (all_three (share_bit s t) (view_passes b reads_of s) (view_passes b reads_of t) (both_share i s t p.0 q.0) p.1 q.1)
    go (inr low) = let p = and-both (covers i s) (view_passes b reads_of s) hs in let q = and-both (covers i t) (view_passes b reads_of t) ht in
        (pair_at b w.slots h.together j k t s low et es).one_reads (all_three (share_bit t s) (view_passes b reads_of t) (view_passes b reads_of s) (both_share i t s q.0 p.0) q.1 p.1)

other_zero : (b : Block) (u : ItemValues) (w : Word) → WordIsSound b w → (i k j : ℕ) (s t : Slot) → slice_get w.slots k ≡ Some s → slice_get w.slots j ≡ Some t → (j ≡ k → ⊥)
    → shows_at b reads_of i s ≡ true → bit_at (slot_value b u t) i ≡ 0
other_zero b u w h i k j s t es et differ hs = go (shows_at b reads_of i t) refl
  where
    go : (c : Bool) → shows_at b reads_of i t ≡ c → bit_at (slot_value b u t) i ≡ 0
    go false e = bit_off b u w t i (each_at (SlotIsSound b w) w.slots j t h.slots et) e
    go true e = absurd (one_reader b w h i k j s t es et differ hs e)

slots_read : (b : Block) (u : ItemValues) (at : ℕ) (w : Word) → slice_get b.reads at ≡ Some w → read_data b u (Read at) ≡ all_or (slot_value b u) 0 w.slots
slots_read b u at w e = ap (λ o. all_or (slot_value b u) 0 (option_map_or (λ (x : Word). x.slots) o [])) e

pub read_lane : (b : Block) (u : ItemValues) (at : ℕ) (w : Word) → slice_get b.reads at ≡ Some w → WordIsSound b w → (k : ℕ) (s : Slot) (v : View) → slice_get w.slots k ≡ Some s
    → slice_get b.views s.view ≡ Some v → v.reads ≡ true → (i : ℕ) → covers i s ≡ true → bit_at (read_data b u (Read at)) i ≡ bit_at (u (item.Field v.field)) (s.from + (i - s.low))
read_lane b u at w e h k s v es ev reads i c =
    let shows : shows_at b reads_of i s ≡ true = and-both_true (covers i s) (view_passes b reads_of s) c (passes b reads_of s v ev ∙ reads) in
    let sound = each_at (SlotIsSound b w) w.slots k s h.slots es in
    ap (λ n. bit_at n i) (slots_read b u at w e)
    ∙ alone (slot_value b u) i 0 w.slots k s es (λ j t et differ. other_zero b u w h i k j s t es et differ shows)
    ∙ ap (λ n. max n (bit_at (slot_value b u s) i)) (bit_at-zero i) ∙ zero_max (bit_at (slot_value b u s) i)
    ∙ bit_on b u s v i sound.some_bit ev reads c

not_any : {X : Type 0} (p : X → Bool) (xs : List X) (j : ℕ) (x : X) → list_any p xs ≡ false → slice_get xs j ≡ Some x → p x ≡ false
not_any p [] j x h e = cc e
not_any p (y ∷ ys) zero x h e = let same : y ≡ x = cc e in ap p (sym same) ∙ or-left_false (p y) (list_any p ys) h
not_any p (y ∷ ys) (suc j) x h e = not_any p ys j x (or-right_false (p y) (list_any p ys) h) e

pub read_none : (b : Block) (u : ItemValues) (at : ℕ) (w : Word) → slice_get b.reads at ≡ Some w → WordIsSound b w → (i : ℕ) → list_any (shows_at b reads_of i) w.slots ≡ false → bit_at (read_data b u (Read at)) i ≡ 0
read_none b u at w e h i none = ap (λ n. bit_at n i) (slots_read b u at w e)
    ∙ zeros (slot_value b u) i 0 w.slots (λ j t et. bit_off b u w t i (each_at (SlotIsSound b w) w.slots j t h.slots et) (not_any (shows_at b reads_of i) w.slots j t none et))
    ∙ bit_at-zero i

-- The write lane

abbrev writes_of : View → Bool
writes_of v = v.writes

-- a write through a view that doesn't write
no_act : (v : View) (w g done y bits : ℕ) → v.writes ≡ false → after_write v w g done y bits ≡ y
no_act v w g done y bits t = ap (λ c. if c && is_open v.gate g && not (v.once && (done == 1)) then written v.on_write w y bits else y) t ∙ closed (is_open v.gate g) (not (v.once && (done == 1)))
  where
    closed : (p q : Bool) → (if false && p && q then written v.on_write w y bits else y) ≡ y
    closed true true = refl
    closed true false = refl
    closed false true = refl
    closed false false = refl

same_fold : (f g : ℕ → Slot → ℕ) (x : ℕ) (slots : List Slot) → ((j : ℕ) (s : Slot) → slice_get slots j ≡ Some s → (y : ℕ) → f y s ≡ g y s) → fold f x slots ≡ fold g x slots
same_fold f g x [] h = refl
same_fold f g x (s ∷ ss) h = ap (λ y. fold f y ss) (h 0 s refl x) ∙ same_fold f g (g x s) ss (λ j t e. h (suc j) t e)

same_bits : (b : Block) (w : Word) (s : Slot) (j d e : ℕ) → SlotIsSound b w s → slice_get w.slots j ≡ Some s → view_passes b writes_of s ≡ true
    → ((i : ℕ) → list_any (shows_at b writes_of i) w.slots ≡ true → bit_at d i ≡ bit_at e i) → slot_bits s d ≡ slot_bits s e
same_bits b w s j d e h at passed agree =
    same_from_bits_below s.bits (slot_bits s d) (slot_bits s e) (part_fits d s.low s.bits h.some_bit) (part_fits e s.low s.bits h.some_bit) (λ k below.
    let under : s.low ≤ s.low + k = omega arith in
    let before : s.low + k < s.low + s.bits = omega (arith, below) in
    let shown = any-get (shows_at b writes_of (s.low + k)) w.slots j s at (and-both_true (covers (s.low + k) s) (view_passes b writes_of s) (covers_at (s.low + k) s under before) passed) in
    part_bit d s.low s.bits k h.some_bit below ∙ agree (s.low + k) shown ∙ sym (part_bit e s.low s.bits k h.some_bit below))

slot_same : (b : Block) (n : Now) (u : ItemValues) (k : ℕ) (f : Field) (w : Word) (s : Slot) (j d e : ℕ) → SlotIsSound b w s → slice_get w.slots j ≡ Some s
    → ((i : ℕ) → list_any (shows_at b writes_of i) w.slots ≡ true → bit_at d i ≡ bit_at e i) → (y : ℕ) → slot_written b n u k f d y s ≡ slot_written b n u k f e y s
slot_same b n u k f w s j d e h at agree y = found d ∙ same h.view.writes refl ∙ sym (found e)
  where
    found : (c : ℕ) → slot_written b n u k f c y s ≡ (if h.view.field == k then after_write h.view f.width (view_gate n u h.view) (n.kept (Done k)) y (slot_bits s c) else y)
    found c = ap (λ o. option_map_or (λ (v : View). if v.field == k then after_write v f.width (view_gate n u v) (n.kept (Done k)) y (slot_bits s c) else y) o y) h.of_view

    same : (t : Bool) → h.view.writes ≡ t → (if h.view.field == k then after_write h.view f.width (view_gate n u h.view) (n.kept (Done k)) y (slot_bits s d) else y)
        ≡ (if h.view.field == k then after_write h.view f.width (view_gate n u h.view) (n.kept (Done k)) y (slot_bits s e) else y)
    same true t = ap (λ c. if h.view.field == k then after_write h.view f.width (view_gate n u h.view) (n.kept (Done k)) y c else y) (same_bits b w s j d e h at (passes b writes_of s h.view h.of_view ∙ t) agree)
    same false t = ap (λ c. if h.view.field == k then c else y) (no_act h.view f.width (view_gate n u h.view) (n.kept (Done k)) y (slot_bits s d) t ∙ sym (no_act h.view f.width (view_gate n u h.view) (n.kept (Done k)) y (slot_bits s e) t))

pub write_lane : (b : Block) (n : Now) (u : ItemValues) (at : ℕ) (w : Word) → slice_get b.writes at ≡ Some w → WordIsSound b w → (d e : ℕ) → ((i : ℕ) → list_any (shows_at b writes_of i) w.slots ≡ true → bit_at d i ≡ bit_at e i)
    → (k : ℕ) (f : Field) (x : ℕ) → software b n u (Write at d) k f x ≡ software b n u (Write at e) k f x
write_lane b n u at w is h d e agree k f x =
    ap (λ o. fold (slot_written b n u k f d) x (option_map_or (λ (v : Word). v.slots) o [])) is
    ∙ same_fold (slot_written b n u k f d) (slot_written b n u k f e) x w.slots (λ j s es y. slot_same b n u k f w s j d e (each_at (SlotIsSound b w) w.slots j s h.slots es) es agree y)
    ∙ sym (ap (λ o. fold (slot_written b n u k f e) x (option_map_or (λ (v : Word). v.slots) o [])) is)
