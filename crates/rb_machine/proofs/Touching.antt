-- What slots in turn make of what there is of each field.
use Rattle.std.proofs.Common.{◌≡◌, ◌≢◌, ℕ, ◌+◌, ◌-◌, ◌*◌, ◌^◌, bit_or, ◌<◌, ◌≤◌, ◌==◌, if◌then◌else◌, Some, List, length, fold, take, slice_get, get_or, refl, sym, ap, ◌∙◌, subst, arith, get_or-set_other, get_or-set_same, inl, inr, ◌⊎◌}
use Rattle.std.proofs.Math.ListN.{set}
use Rattle.std.specs.Option.{option_map_or}
use Rattle.std.proofs.lemmas.List.{take_more, take_all}
use Rattle.std.proofs.lemmas.Option.{same_Some, slice_get-get_or, slice_get_within}
use Rattle.rb_model.specs.declared.block.Block.{Block}
use Rattle.rb_model.specs.declared.block.View.{View}
use Rattle.rb_model.specs.declared.block.Slot.{Slot}
use Rattle.rb_model.specs.declared.block.Word.{Word}
use Rattle.rb_model.specs.Sound.{IsSound, SlotIsSound, WordIsSound}
use Rattle.rb_model.specs.SoundField.{FieldIsSoundIn}
use Rattle.rb_model.proofs.Eachs.{Each-at, Each-from_zero}
use Rattle.rb_model.specs.Effects.{after_read}
use Rattle.rb_machine.specs.declared.sight.FieldState.{FieldState}
use Rattle.rb_base.specs.Bits.{part}
use Rattle.rb_model.specs.declared.kinds.RefItem.TheVariants as item
use Rattle.rb_model.specs.Items.{Now, ItemValues}
use Rattle.rb_model.specs.Kept.{Done}
use Rattle.rb_model.specs.Machine.{slot_value, view_gate}
use Rattle.rb_machine.specs.Slots.{read_state, touched, touched_by, width_at, write_state, written_by}
use Rattle.plain_lemmas.proofs.Numbers.{same_or_other}
use Rattle.plain_lemmas.proofs.Lists.{fold-push}

-- a fold over one more element
pub fold_more : {A X : Type 0} (f : A → X → A) (a : A) (xs : List X) (i : ℕ) (d : X) → i < length xs → fold f a (take (i + 1) xs) ≡ f (fold f a (take i xs)) (get_or xs i d)
fold_more f a xs i d l = ap (fold f a) (take_more xs i d l) ∙ fold-push f a (take i xs) (get_or xs i d)

-- what a word's slot is
pub record SlotFits (b : Block) (s : Slot) (w : View) : Type 0 where
  pub field : w.field < length b.fields
  pub some_bit : 0 < s.bits
  pub in_word : s.low + s.bits ≤ 32
  pub in_field : s.from < 64

wide_word : (b : Block) (word : Word) → WordIsSound b word → word.width ≤ 32
wide_word b word h = by h.wide
  where
    by : (word.width ≡ 8) ⊎ (word.width ≡ 16) ⊎ (word.width ≡ 32) → word.width ≤ 32
    by (inl e) = omega (arith, e)
    by (inr (inl e)) = omega (arith, e)
    by (inr (inr e)) = omega (arith, e)

sound_slot : (b : Block) (word : Word) (read : List Slot) (i : ℕ) (d : Slot) → WordIsSound b word → read ≡ word.slots → i < length read → SlotIsSound b word (get_or read i d)
sound_slot b word read i d h same l = Each-at (SlotIsSound b word) word.slots i (get_or read i d) h.slots (ap (λ ss. slice_get ss i) (sym same) ∙ slice_get-get_or read i d l)

-- the slot's view is there
pub slot_view : (b : Block) (word : Word) (read : List Slot) (i : ℕ) (d : Slot) → WordIsSound b word → read ≡ word.slots → i < length read → (get_or read i d).view < length b.views
slot_view b word read i d h same l = let s = sound_slot b word read i d h same l in slice_get_within b.views (get_or read i d).view s.view s.of_view

pub slot_fits : (b : Block) (word : Word) (read : List Slot) (i : ℕ) (d : Slot) (w : View) → IsSound b → WordIsSound b word → read ≡ word.slots → i < length read
    → slice_get b.views (get_or read i d).view ≡ Some w → SlotFits b (get_or read i d) w
slot_fits b word read i d w sound h same l here =
    let s = sound_slot b word read i d h same l in
    let e : s.view ≡ w = same_Some s.view w (sym s.of_view ∙ here) in
    let f : FieldIsSoundIn b (s.view.field, s.field) = Each-from_zero (FieldIsSoundIn b) b.fields s.view.field s.field sound.fields s.of_field in
    let wide : word.width ≤ 32 = wide_word b word h in
    record {
      field = subst (λ v. v.field < length b.fields) e (slice_get_within b.fields s.view.field s.field s.of_field);
      some_bit = s.some_bit;
      in_word = omega (arith, s.in_word, wide);
      in_field = omega (arith, s.in_field, s.some_bit, f.alone.wide.1);
    }

-- one slot more
pub touched_more : {X : Type 0} (b : Block) (g : View → Slot → X → X) (d : X) (read : List Slot) (i : ℕ) (s : Slot) (w : View) (xs0 xs : List X) (at : ℕ) (y : X)
    → i < length read → slice_get b.views (get_or read i s).view ≡ Some w → at ≡ w.field → at < length xs → y ≡ g w (get_or read i s) (get_or xs at d)
    → ((k : ℕ) → get_or xs k d ≡ touched_by b k g (get_or xs0 k d) (take i read))
    → (k : ℕ) → get_or (set xs at y) k d ≡ touched_by b k g (get_or xs0 k d) (take (i + 1) read)
touched_more b g d read i s w xs0 xs at y l here place room is h k =
    let t = get_or read i s in
    let x0 = get_or xs0 k d in
    let more : touched_by b k g x0 (take (i + 1) read) ≡ touched b k g (get_or xs k d) t = fold_more (touched b k g) x0 read i s l ∙ ap (λ x. touched b k g x t) (sym (h k)) in
    let seen : touched b k g (get_or xs k d) t ≡ (if w.field == k then g w t (get_or xs k d) else get_or xs k d) = ap (λ o. option_map_or (λ v. if v.field == k then g v t (get_or xs k d) else get_or xs k d) o (get_or xs k d)) here in
    elim (same_or_other w.field k) [
      | inl e ↦
          let p : at ≡ k = place ∙ e.0 in
          let same : get_or (set xs at y) at d ≡ y = rw get_or-set_same refl in
          ap (λ m. get_or (set xs at y) m d) (sym p) ∙ (same ∙ (is ∙ (ap (λ m. g w t (get_or xs m d)) p ∙ sym (more ∙ (seen ∙ ap (λ c. if c then g w t (get_or xs k d) else get_or xs k d) e.1)))))
      | inr e ↦
          let ne : k ≢ at = λ q. e.0 (sym (q ∙ place)) in
          let same : get_or (set xs at y) k d ≡ get_or xs k d = rw get_or-set_other refl in
          same ∙ sym (more ∙ (seen ∙ ap (λ c. if c then g w t (get_or xs k d) else get_or xs k d) e.1))
    ]

-- all slots
pub touched_all : {X : Type 0} (b : Block) (g : View → Slot → X → X) (d : X) (read ss : List Slot) (i : ℕ) (xs0 xs : List X) → read ≡ ss → length read ≤ i
    → ((k : ℕ) → get_or xs k d ≡ touched_by b k g (get_or xs0 k d) (take i read)) → (k : ℕ) → get_or xs k d ≡ touched_by b k g (get_or xs0 k d) ss
touched_all b g d read ss i xs0 xs same past h k = h k ∙ ap (λ rs. touched_by b k g (get_or xs0 k d) rs) (take_all i read past ∙ same)

-- what a read makes of a field, by the field's width
pub read_through : (b : Block) (w : View) (s : Slot) (width r : ℕ) (x : FieldState) → width ≡ width_at b w.field → r ≡ after_read w.on_read width x.value
    → record { value = r; last = x.last; done = x.done } ≡ read_state b w s x
read_through b w s width r x e is = let q : r ≡ after_read w.on_read (width_at b w.field) x.value = is ∙ ap (λ n. after_read w.on_read n x.value) e in ap (λ v. record { value = v; last = x.last; done = x.done }) q

-- what a write makes of it, by the field's width, the view's gate and the mark of a write
pub written_through : (b : Block) (n : Now) (v : ItemValues) (w : View) (s : Slot) (width gate done d : ℕ) (x r : FieldState) → width ≡ width_at b w.field → gate ≡ view_gate n v w → done ≡ n.kept (Done w.field)
    → r ≡ written_by width gate done d w s x → r ≡ write_state b n v d w s x
written_through b n v w s width gate done d x r p q t is = is ∙ (ap (λ m. written_by m gate done d w s x) p ∙ (ap (λ m. written_by (width_at b w.field) m done d w s x) q ∙ ap (λ m. written_by (width_at b w.field) (view_gate n v w) m d w s x) t))

-- what a slot shows
pub shown_by : (b : Block) (v : ItemValues) (s : Slot) (w : View) (r : ℕ) → slice_get b.views s.view ≡ Some w
    → r ≡ (if w.reads then part (v (item.Field w.field)) (s.from + s.bits - 1) s.from * 2 ^ s.low else 0) → r ≡ slot_value b v s
shown_by b v s w r here is = is ∙ sym (ap (λ o. option_map_or (λ u. if u.reads then part (v (item.Field u.field)) (s.from + s.bits - 1) s.from * 2 ^ s.low else 0) o 0) here)

pub shown_more : (b : Block) (v : ItemValues) (read : List Slot) (i : ℕ) (d : Slot) (x y : ℕ) → i < length read → x ≡ fold (λ acc s. bit_or acc (slot_value b v s)) 0 (take i read) → y ≡ slot_value b v (get_or read i d)
    → bit_or x y ≡ fold (λ acc s. bit_or acc (slot_value b v s)) 0 (take (i + 1) read)
shown_more b v read i d x y l e f = ap (bit_or x) f ∙ (ap (λ z. bit_or z (slot_value b v (get_or read i d))) e ∙ sym (fold_more (λ acc s. bit_or acc (slot_value b v s)) 0 read i d l))
