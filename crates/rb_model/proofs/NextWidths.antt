-- What an edge of a sound block keeps and shows is within its widths.
use Rattle.std.proofs.Common.{◌≡◌, ℕ, zero, suc, ◌+◌, ◌-◌, ◌*◌, ◌^◌, ◌/◌, ◌<◌, ◌≤◌, ◌%◌, ◌==◌, Bool, true, false, not, ◌&&◌, ◌||◌, if◌then◌else◌, Option, Some, None, unwrap_or, List, [], ◌∷◌, ◌++◌, codes, length, slice_get, get_or, map, fold, bit_or, refl, ap, sym, ◌∙◌, subst, mod-lt, mul-le-mul_right, ◌⊎◌, inl, inr, arith}
use Rattle.std.specs.Prelude.{Contains, All, IsTrue}
use Rattle.std.specs.List.{enumerate_from, flat_map}
use Rattle.std.specs.Option.{option_map_or, option_map}
use Rattle.std.proofs.Math.Pow.{pow_pos, pow_mono}
use Rattle.std.proofs.lemmas.Nat.{or_lt, pow-add}
use Rattle.std.proofs.lemmas.Option.{same_Some}
use Rattle.std.proofs.lemmas.Bool.{eqb-true}
use Rattle.rb_base.specs.Bits.{part}
use Rattle.v_design.specs.Expr.{bit_of}
use Rattle.rb_model.specs.declared.kinds.RefItem.TheVariants as item
use Rattle.rb_model.specs.declared.kinds.Latch.{Latch}
use Rattle.rb_model.specs.declared.kinds.Latch.TheVariants as latch
use Rattle.rb_base.specs.declared.trigger.Trigger.{Trigger}
use Rattle.rb_base.specs.declared.trigger.Trigger.TheVariants as trigger
use Rattle.rb_model.specs.declared.kinds.Level.{Level}
use Rattle.rb_model.specs.declared.kinds.Level.TheVariants as level
use Rattle.rb_model.specs.declared.kinds.Amount.{Amount}
use Rattle.rb_model.specs.declared.kinds.Amount.TheVariants as amount
use Rattle.rb_model.specs.declared.kinds.Part.{Part}
use Rattle.rb_model.specs.declared.kinds.Count.{Count}
use Rattle.rb_model.specs.declared.block.Block.{Block}
use Rattle.rb_model.specs.declared.block.Field.{Field}
use Rattle.rb_model.specs.declared.block.View.{View}
use Rattle.rb_model.specs.declared.block.Slot.{Slot}
use Rattle.rb_model.specs.declared.block.Word.{Word}
use Rattle.rb_model.specs.Kept.{Kept, Val, Last, Done, Waited, Data, Error, Map, when, of_field, is_storage, keeps_last, waits_for_change, kept, kept_of, has_wait, register_width, Fits}
use Rattle.rb_model.specs.Ports.{input_pins}
use Rattle.rb_model.specs.Effects.{loaded, counted, events, latched, finished, after_read, after_write}
use Rattle.rb_model.specs.Items.{Access, NoAccess, Read, Write, Now, ItemValues, AreItemValues, items, source_value, gated, fed, mask_value, level_value, amount_value, step, up, down, slots_of}
use Rattle.rb_model.specs.Machine.{slot_bits, slot_read, slot_written, of_view, software, counts, hardware, changed, moved, next, reset_where, slot_value, read_data, view_gate}
use Rattle.rb_model.specs.References.{Each, WithSome, item_width, AreWide, AreWithin, feed_refs, level_refs, amount_refs}
use Rattle.rb_model.specs.SoundField.{FieldIsSoundIn, FieldIsSound, RefersWell, LevelFits, AmountFits, PartFits, CountFits, changes}
use Rattle.rb_model.specs.Sound.{IsSound, ViewIsSound, WordIsSound, SlotIsSound}
use Rattle.rb_model.proofs.Eachs.{Each-weaker, Each-at, Each-from_zero, Each-left, Each-right}
use Rattle.rb_model.specs.PinsHave.{FeedHas, AmountHas}
use Rattle.rb_model.proofs.HasPins.{PartHas, CountHas, FieldHas, field_has}
use Rattle.rb_model.proofs.ValueWidths.{PinFits, fed_fits, values_fit, val_fits, last_fits}
use Rattle.rb_model.proofs.EffectWidths.{ones_below, loaded-below, counted-below, events-below, finished-below, after_read-below, after_write-below}

-- part of a number
pub part-below : (v from bits : ℕ) → 0 < bits → part v (from + bits - 1) from < 2 ^ bits
part-below v from bits h =
    let e : from + bits - 1 - from + 1 ≡ bits = omega arith in
    let p : 0 < 2 ^ bits = pow_pos bits in
    let l : v / 2 ^ from % 2 ^ bits < 2 ^ bits = mod-lt (v / 2 ^ from) p in
    subst (λ k. v / 2 ^ from % 2 ^ k < 2 ^ bits) (sym e) l

pub shifted-below : (x bits low w : ℕ) → x < 2 ^ bits → low + bits ≤ w → x * 2 ^ low < 2 ^ w
shifted-below x bits low w h l =
    let p : 0 < 2 ^ low = pow_pos low in
    let m : 2 ^ (low + bits) ≤ 2 ^ w = pow_mono l in
    let s : 2 ^ (low + bits) ≡ 2 ^ low * 2 ^ bits = pow-add 2 low bits in
    let t : (x + 1) * 2 ^ low ≤ 2 ^ bits * 2 ^ low = mul-le-mul_right (2 ^ low) (let g : x + 1 ≤ 2 ^ bits = omega arith in g) in
    omega arith

module _ (b : Block) (sound : IsSound b) (n : Now) (fits : Fits b n.kept) (pins : Each (PinFits n.pins) (input_pins b)) (v : ItemValues) (right : AreItemValues b n v) where
  abbrev fieldsound : (k : ℕ) (f : Field) → slice_get b.fields k ≡ Some f → FieldIsSoundIn b (k, f)
  fieldsound k f e = Each-from_zero (FieldIsSoundIn b) b.fields k f sound.fields e

  within : (w : ℕ) (i : _) → Contains (items b) i × (item_width b i ≤ w) → v i < 2 ^ w
  within w i h = let l : v i < 2 ^ item_width b i = values_fit b sound n fits pins v right i h.0 in let m : 2 ^ item_width b i ≤ 2 ^ w = pow_mono h.1 in omega arith

  pub source_fits : (k : ℕ) (f : Field) → slice_get b.fields k ≡ Some f → source_value n v f < 2 ^ f.width
  source_fits k f e =
      let s : FieldIsSoundIn b (k, f) = fieldsound k f e in
      let h : FieldHas (PinFits n.pins) f = field_has (PinFits n.pins) b sound pins k f e in
      fed_fits b sound n fits pins v f.source (codes "in$" ++ f.path) f.width h.source s.refers.source
      (Each-weaker (λ i. Contains (items b) i × (item_width b i ≡ f.width)) (λ i. v i < 2 ^ item_width b i) (λ i q. values_fit b sound n fits pins v right i q.0) (feed_refs f.source) s.refers.source)

  level_fits : (w : ℕ) (l : Level) → LevelFits w l → AreWithin b w (level_refs l) → level_value v l < 2 ^ w
  level_fits w (level.Number x) h a = h
  level_fits w (level.Item i) h a = within w i a.0

  levels_fit : (w : ℕ) (l : Option Level) → WithSome l (LevelFits w) → WithSome l (λ l. AreWithin b w (level_refs l)) → WithSome (option_map (level_value v) l) (λ x. x < 2 ^ w)
  levels_fit w None h a = tt
  levels_fit w (Some l) h a = level_fits w l h a

  counts_fit : (k : ℕ) (f : Field) → slice_get b.fields k ≡ Some f → (x : ℕ) → x < 2 ^ f.width → counts n v f x < 2 ^ f.width
  counts_fit k f e x h = let s : FieldIsSoundIn b (k, f) = fieldsound k f e in by f.count s.alone.count s.refers.levels
    where
      by : (o : Option Count) → WithSome o (CountFits f.width)
          → WithSome o (λ c. WithSome c.high (λ l. AreWithin b f.width (level_refs l)) × WithSome c.low (λ l. AreWithin b f.width (level_refs l)) × AreWithin b f.width (level_refs c.above ++ level_refs c.below))
          → option_map_or (λ c. counted f.width x (up n v f) (down n v f) (option_map (level_value v) c.high) (option_map (level_value v) c.low)) o x < 2 ^ f.width
      by None c l = h
      by (Some c) p l = counted-below f.width x (up n v f) (down n v f) (option_map (level_value v) c.high) (option_map (level_value v) c.low) (levels_fit f.width c.high p.high l.0) (levels_fit f.width c.low p.low l.1)

  -- the input of the vector before, where it is kept
  latch_fits : (k : ℕ) (f : Field) → slice_get b.fields k ≡ Some f → (x : ℕ) → x < 2 ^ f.width → latched f.latch f.width x (source_value n v f) (n.kept (Last k)) < 2 ^ f.width
  latch_fits k f e x h = by f.latch refl
    where
      input : source_value n v f < 2 ^ f.width
      input = source_fits k f e

      last : keeps_last f.latch ≡ true → n.kept (Last k) < 2 ^ f.width
      last t = last_fits b n.kept fits k f e t

      event : (g : Trigger) → (waits_for_change g ≡ true → n.kept (Last k) < 2 ^ f.width) → events g f.width (source_value n v f) (n.kept (Last k)) < 2 ^ f.width
      event trigger.Level l = input
      event trigger.Posedge l = events-below trigger.Posedge f.width (source_value n v f) (n.kept (Last k)) input (l refl)
      event trigger.Negedge l = events-below trigger.Negedge f.width (source_value n v f) (n.kept (Last k)) input (l refl)
      event trigger.Bothedge l = events-below trigger.Bothedge f.width (source_value n v f) (n.kept (Last k)) input (l refl)
      event trigger.Nonsticky l = input

      by : (l : Latch) → f.latch ≡ l → latched l f.width x (source_value n v f) (n.kept (Last k)) < 2 ^ f.width
      by latch.Off q = h
      by (latch.Bits g) q = or_lt f.width x (events g f.width (source_value n v f) (n.kept (Last k))) h (event g (λ t. last (ap keeps_last q ∙ t)))
      by (latch.Whole g) q = if_fits (x == 0)
        where
          if_fits : (c : Bool) → (if c then events g f.width (source_value n v f) (n.kept (Last k)) else x) < 2 ^ f.width
          if_fits true = event g (λ t. last (ap keeps_last q ∙ t))
          if_fits false = h
      by latch.Plain q = h

  pub hardware_fits : (k : ℕ) (f : Field) → slice_get b.fields k ≡ Some f → (x : ℕ) → x < 2 ^ f.width → hardware n v k f x < 2 ^ f.width
  hardware_fits k f e x h =
      let after_load : ℕ = loaded f x (source_value n v f) (gated n v f.gate (codes "we$") (codes "wel$") f.path) in
      let l : after_load < 2 ^ f.width = loaded-below f x (source_value n v f) (gated n v f.gate (codes "we$") (codes "wel$") f.path) h (source_fits k f e) in
      let c : counts n v f after_load < 2 ^ f.width = counts_fit k f e after_load l in
      let t : latched f.latch f.width (counts n v f after_load) (source_value n v f) (n.kept (Last k)) < 2 ^ f.width = latch_fits k f e (counts n v f after_load) c in
      finished-below f x (latched f.latch f.width (counts n v f after_load) (source_value n v f) (n.kept (Last k))) (fed n v f.set (codes "hwset$" ++ f.path)) (fed n v f.clear (codes "hwclr$" ++ f.path)) (mask_value v f.keep) h t

  -- Software

  fold_fits : (w : ℕ) (g : ℕ → Slot → ℕ) (ss : List Slot) → Each (λ s. (x : ℕ) → x < 2 ^ w → g x s < 2 ^ w) ss → (x : ℕ) → x < 2 ^ w → fold g x ss < 2 ^ w
  fold_fits w g [] h x l = l
  fold_fits w g (s ∷ ss) h x l = fold_fits w g ss h.1 (g x s) (h.0 x l)

  slots_sound : (ws : List Word) → Each (WordIsSound b) ws → (i : ℕ) → (w : Word) → slice_get ws i ≡ Some w → Each (SlotIsSound b w) (slots_of ws i)
  slots_sound ws h i w e =
      let s : WordIsSound b w = Each-at (WordIsSound b) ws i w h e in
      subst (λ o. Each (SlotIsSound b w) (option_map_or (λ w. w.slots) o [])) (sym e) s.slots

  read_slot_fits : (k : ℕ) (f : Field) (s : Slot) (x : ℕ) → x < 2 ^ f.width → slot_read b k f x s < 2 ^ f.width
  read_slot_fits k f s x h = by (slice_get b.views s.view)
    where
      if_fits : (c : Bool) (y z : ℕ) → y < 2 ^ f.width → z < 2 ^ f.width → (if c then y else z) < 2 ^ f.width
      if_fits true y z p q = p
      if_fits false y z p q = q

      by : (o : Option View) → option_map_or (λ w. if w.field == k then after_read w.on_read f.width x else x) o x < 2 ^ f.width
      by None = h
      by (Some w) = if_fits (w.field == k) (after_read w.on_read f.width x) x (after_read-below w.on_read f.width x h) h

  written_slot_fits : (k : ℕ) (f : Field) → slice_get b.fields k ≡ Some f → (d : ℕ) (w : Word) (s : Slot) → SlotIsSound b w s → (x : ℕ) → x < 2 ^ f.width → slot_written b n v k f d x s < 2 ^ f.width
  written_slot_fits k f e d w s p x h = rw p.of_view (by (p.view.field == k) refl)
    where
      by : (c : Bool) → (p.view.field == k) ≡ c → (if c then after_write p.view f.width (view_gate n v p.view) (n.kept (Done k)) x (slot_bits s d) else x) < 2 ^ f.width
      by true q = after_write-below p.view f.width (view_gate n v p.view) (n.kept (Done k)) x (slot_bits s d) h
          (λ t. let same : p.view.field ≡ k = eqb-true p.view.field k q in
          let g : p.field ≡ f = same_Some p.field f (sym p.of_field ∙ ap (slice_get b.fields) same ∙ e) in
          let c : changes p.view ≡ true = rw t refl in
          let wide : s.bits ≡ f.width = (p.whole c).1 ∙ ap (λ g. g.width) g in
          let below : slot_bits s d < 2 ^ s.bits = part-below d s.low s.bits p.some_bit in
          subst (λ u. slot_bits s d < 2 ^ u) wide below)
      by false q = h

  pub software_fits : (a : Access) (k : ℕ) (f : Field) → slice_get b.fields k ≡ Some f → (x : ℕ) → x < 2 ^ f.width → software b n v a k f x < 2 ^ f.width
  software_fits NoAccess k f e x h = h
  software_fits (Read i) k f e x h = fold_fits f.width (slot_read b k f) (slots_of b.reads i) (always (slots_of b.reads i)) x h
    where
      always : (ss : List Slot) → Each (λ s. (x : ℕ) → x < 2 ^ f.width → slot_read b k f x s < 2 ^ f.width) ss
      always [] = tt
      always (s ∷ ss) = (λ y g. read_slot_fits k f s y g, always ss)
  software_fits (Write i d) k f e x h = by (slice_get b.writes i) refl
    where
      by : (o : Option Word) → slice_get b.writes i ≡ o → fold (slot_written b n v k f d) x (slots_of b.writes i) < 2 ^ f.width
      by None q = rw q h
      by (Some w) q = fold_fits f.width (slot_written b n v k f d) (slots_of b.writes i)
          (Each-weaker (SlotIsSound b w) (λ s. (y : ℕ) → y < 2 ^ f.width → slot_written b n v k f d y s < 2 ^ f.width) (λ s p y g. written_slot_fits k f e d w s p y g) (slots_of b.writes i) (slots_sound b.writes sound.writes i w q)) x h

  -- The answer

  value_slot_fits : (w : Word) → WordIsSound b w → (s : Slot) → SlotIsSound b w s → slot_value b v s < 2 ^ 32
  value_slot_fits w t s p = rw p.of_view (by p.view.reads)
    where
      wide : w.width ≤ 32
      wide = elim t.wide [ inl q ↦ omega arith | inr q ↦ elim q [ inl r ↦ omega arith | inr r ↦ omega arith ] ]

      by : (c : Bool) → (if c then part (v (item.Field p.view.field)) (s.from + s.bits - 1) s.from * 2 ^ s.low else 0) < 2 ^ 32
      by true = let in_word : s.low + s.bits ≤ w.width = p.in_word in let u : w.width ≤ 32 = wide in shifted-below (part (v (item.Field p.view.field)) (s.from + s.bits - 1) s.from) s.bits s.low 32 (part-below (v (item.Field p.view.field)) s.from s.bits p.some_bit) (omega arith)
      by false = omega arith

  or_fits : (g : Slot → ℕ) (ss : List Slot) → Each (λ s. g s < 2 ^ 32) ss → (x : ℕ) → x < 2 ^ 32 → fold (λ acc s. bit_or acc (g s)) x ss < 2 ^ 32
  or_fits g [] h x l = l
  or_fits g (s ∷ ss) h x l = or_fits g ss h.1 (bit_or x (g s)) (or_lt 32 x (g s) l h.0)

  pub read_data_fits : (a : Access) → read_data b v a < 2 ^ 32
  read_data_fits NoAccess = omega arith
  read_data_fits (Write i d) = omega arith
  read_data_fits (Read i) = by (slice_get b.reads i) refl
    where
      zero_fits : 0 < 2 ^ 32
      zero_fits = omega arith

      by : (o : Option Word) → slice_get b.reads i ≡ o → fold (λ acc s. bit_or acc (slot_value b v s)) 0 (slots_of b.reads i) < 2 ^ 32
      by None q = rw q zero_fits
      by (Some w) q = let t : WordIsSound b w = Each-at (WordIsSound b) b.reads i w sound.reads q in
          or_fits (slot_value b v) (slots_of b.reads i) (Each-weaker (SlotIsSound b w) (λ s. slot_value b v s < 2 ^ 32) (λ s p. value_slot_fits w t s p) (slots_of b.reads i) (slots_sound b.reads sound.reads i w q)) 0 zero_fits
