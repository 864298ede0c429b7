-- What one edge makes depends on the values of the block's items alone.
use Rattle.std.proofs.Common.{◌≡◌, ℕ, zero, suc, ◌+◌, ◌-◌, ◌*◌, ◌^◌, ◌==◌, Bool, true, false, ◌&&◌, if◌then◌else◌, Option, Some, None, List, [], ◌∷◌, ◌++◌, codes, slice_get, map, fold, refl, ap, sym, ◌∙◌, subst, arith}
use Rattle.std.specs.Prelude.{Contains, bit_or}
use Rattle.std.specs.List.{enumerate_from, list_any}
use Rattle.std.specs.Option.{option_map_or, option_map}
use Rattle.rb_base.specs.Bits.{part}
use Rattle.rb_model.specs.declared.kinds.RefItem.{RefItem}
use Rattle.rb_model.specs.declared.kinds.RefItem.TheVariants as item
use Rattle.rb_model.specs.declared.kinds.Feed.{Feed}
use Rattle.rb_model.specs.declared.kinds.Gate.{Gate}
use Rattle.rb_model.specs.declared.kinds.Gate.TheVariants as gate
use Rattle.rb_model.specs.declared.kinds.Level.{Level}
use Rattle.rb_model.specs.declared.kinds.Part.{Part}
use Rattle.rb_model.specs.declared.kinds.Count.{Count}
use Rattle.rb_model.specs.declared.block.Block.{Block}
use Rattle.rb_model.specs.declared.block.Field.{Field}
use Rattle.rb_model.specs.declared.block.View.{View}
use Rattle.rb_model.specs.declared.block.Slot.{Slot}
use Rattle.rb_model.specs.Kept.{Kept, Val, Last, Done, Waited, Data, Error, Map, of_field}
use Rattle.rb_model.specs.Effects.{acts, after_read, after_write, counted, finished, latched, loaded}
use Rattle.rb_model.specs.Ports.{Outlet, outlets}
use Rattle.rb_model.specs.Items.{Access, NoAccess, Read, Write, Now, ItemValues, items, fed, gated, mask_value, level_value, up, down, source_value, slots_of, shows}
use Rattle.rb_model.specs.Machine.{view_gate, slot_bits, slot_read, slot_written, of_view, software, uses_up, counts, hardware, changed, moved, next, slot_value, read_data, outputs}
use Rattle.rb_model.specs.References.{Each, WithSome, AreWide, AreWithin, item_width, feed_refs, gate_refs, mask_refs, level_refs, amount_refs, part_refs, count_refs}
use Rattle.rb_model.specs.SoundField.{FieldIsSoundIn, RefersWell}
use Rattle.rb_model.specs.Sound.{IsSound, ViewIsSound}
use Rattle.rb_model.proofs.Eachs.{Each-left, Each-right, Each-append, Each-weaker, Each-from_zero}
use Rattle.rb_model.proofs.Made.{Agree, fed_same, mask_same, level_same, parts_same}
use Rattle.rb_model.proofs.Among.{value_among, outlets_among}

fold_same : {A X : Type 0} (f g : A → X → A) → ((a : A) (x : X) → f a x ≡ g a x) → (a : A) (xs : List X) → fold f a xs ≡ fold g a xs
fold_same f g h a [] = refl
fold_same f g h a (x ∷ xs) = rw (h a x) (fold_same f g h (g a x) xs)

any_same : {X : Type 0} (p q : X → Bool) → ((x : X) → p x ≡ q x) → (xs : List X) → list_any p xs ≡ list_any q xs
any_same p q h [] = refl
any_same p q h (x ∷ xs) = let here : p x ≡ q x = h x in let there : list_any p xs ≡ list_any q xs = any_same p q h xs in rw (here, there) refl

outlets_same : (u v : ItemValues) (os : List Outlet) → Each (λ o. u o.item ≡ v o.item) os → map (λ o. u o.item) os ≡ map (λ o. v o.item) os
outlets_same u v [] h = refl
outlets_same u v (o ∷ os) h = let e : map (λ o. u o.item) os ≡ map (λ o. v o.item) os = outlets_same u v os h.1 in rw (h.0, e) refl

module _ (b : Block) (n : Now) (u v : ItemValues) (same : (i : RefItem) → Contains (items b) i → u i ≡ v i) where
  wide : (w : ℕ) (is : List RefItem) → AreWide b w is → Agree u v is
  wide w is h = Each-weaker (λ i. Contains (items b) i × (item_width b i ≡ w)) (λ i. u i ≡ v i) (λ i q. same i q.0) is h

  within : (w : ℕ) (is : List RefItem) → AreWithin b w is → Agree u v is
  within w is h = Each-weaker (λ i. Contains (items b) i × _) (λ i. u i ≡ v i) (λ i q. same i q.0) is h

  gated_same : (g : Gate) (high low path : List ℕ) → Agree u v (gate_refs g) → gated n u g high low path ≡ gated n v g high low path
  gated_same gate.Always high low path h = refl
  gated_same (gate.High from) high low path h = fed_same n u v from (high ++ path) h
  gated_same (gate.Low from) high low path h = fed_same n u v from (low ++ path) h

  part_agree : (w : ℕ) (p : Option Part) → WithSome p (λ p. AreWide b 1 (feed_refs p.pulse)) → WithSome p (λ p. AreWithin b w (amount_refs p.amount)) → Agree u v (part_refs p)
  part_agree w None h g = tt
  part_agree w (Some p) h g = Each-append (λ i. u i ≡ v i) (feed_refs p.pulse) (amount_refs p.amount) (wide 1 (feed_refs p.pulse) h) (within w (amount_refs p.amount) g)

  count_agree : (w : ℕ) (o : Option Count)
      → WithSome o (λ c. WithSome c.up (λ p. AreWide b 1 (feed_refs p.pulse)) × WithSome c.down (λ p. AreWide b 1 (feed_refs p.pulse)))
      → WithSome o (λ c. WithSome c.up (λ p. AreWithin b w (amount_refs p.amount)) × WithSome c.down (λ p. AreWithin b w (amount_refs p.amount))) → Agree u v (count_refs o)
  count_agree w None h g = tt
  count_agree w (Some c) h g = Each-append (λ i. u i ≡ v i) (part_refs c.up) (part_refs c.down) (part_agree w c.up h.0 g.0) (part_agree w c.down h.1 g.1)

  level_opt : (w : ℕ) (l : Option Level) → WithSome l (λ l. AreWithin b w (level_refs l)) → option_map (level_value u) l ≡ option_map (level_value v) l
  level_opt w None h = refl
  level_opt w (Some l) h = ap Some (level_same n u v l (within w (level_refs l) h))

  levels_same : (w x a d : ℕ) (o : Option Count)
      → WithSome o (λ c. WithSome c.high (λ l. AreWithin b w (level_refs l)) × WithSome c.low (λ l. AreWithin b w (level_refs l)) × AreWithin b w (level_refs c.above ++ level_refs c.below))
      → option_map_or (λ c. counted w x a d (option_map (level_value u) c.high) (option_map (level_value u) c.low)) o x
      ≡ option_map_or (λ c. counted w x a d (option_map (level_value v) c.high) (option_map (level_value v) c.low)) o x
  levels_same w x a d None h = refl
  levels_same w x a d (Some c) h =
      let p : option_map (level_value u) c.high ≡ option_map (level_value v) c.high = level_opt w c.high h.0 in
      let q : option_map (level_value u) c.low ≡ option_map (level_value v) c.low = level_opt w c.low h.1 in
      rw (p, q) refl

  counts_same : (f : Field) (x : ℕ) → RefersWell b f → counts n u f x ≡ counts n v f x
  counts_same f x r =
      let e : (up n u f ≡ up n v f) × (down n u f ≡ down n v f) = parts_same n u v f.count f.path (count_agree f.width f.count r.pulses r.amounts) in
      rw (e.0, e.1) (levels_same f.width x (up n v f) (down n v f) f.count r.levels)

  hardware_same : (k : ℕ) (f : Field) (x : ℕ) → RefersWell b f → hardware n u k f x ≡ hardware n v k f x
  hardware_same k f x r =
      let P : RefItem → Type 0 = λ i. u i ≡ v i in
      let bits : Agree u v (gate_refs f.gate ++ feed_refs f.set ++ feed_refs f.clear) = wide 1 _ r.bits in
      let masks : Agree u v (mask_refs f.keep ++ mask_refs f.enable ++ mask_refs f.halt) = wide f.width _ r.masks in
      let s : source_value n u f ≡ source_value n v f = fed_same n u v f.source (codes "in$" ++ f.path) (wide f.width (feed_refs f.source) r.source) in
      let g : gated n u f.gate (codes "we$") (codes "wel$") f.path ≡ gated n v f.gate (codes "we$") (codes "wel$") f.path =
      gated_same f.gate (codes "we$") (codes "wel$") f.path (Each-left P (gate_refs f.gate) (feed_refs f.set) (Each-left P (gate_refs f.gate ++ feed_refs f.set) (feed_refs f.clear) bits)) in
      let t : fed n u f.set (codes "hwset$" ++ f.path) ≡ fed n v f.set (codes "hwset$" ++ f.path) =
      fed_same n u v f.set _ (Each-right P (gate_refs f.gate) (feed_refs f.set) (Each-left P (gate_refs f.gate ++ feed_refs f.set) (feed_refs f.clear) bits)) in
      let c : fed n u f.clear (codes "hwclr$" ++ f.path) ≡ fed n v f.clear (codes "hwclr$" ++ f.path) =
      fed_same n u v f.clear _ (Each-right P (gate_refs f.gate ++ feed_refs f.set) (feed_refs f.clear) bits) in
      let m : mask_value u f.keep ≡ mask_value v f.keep =
      mask_same n u v f.keep (Each-left P (mask_refs f.keep) (mask_refs f.enable) (Each-left P (mask_refs f.keep ++ mask_refs f.enable) (mask_refs f.halt) masks)) in
      let y : ℕ = loaded f x (source_value n v f) (gated n v f.gate (codes "we$") (codes "wel$") f.path) in
      let q : counts n u f y ≡ counts n v f y = counts_same f y r in
      rw (s, g, t, c, m) (ap (λ z. finished f x (latched f.latch f.width z (source_value n v f) (n.kept (Last k))) (fed n v f.set (codes "hwset$" ++ f.path)) (fed n v f.clear (codes "hwclr$" ++ f.path)) (mask_value v f.keep)) q)

  module _ (sound : IsSound b) where
    gate_same : (i : ℕ) (w : View) → slice_get b.views i ≡ Some w → view_gate n u w ≡ view_gate n v w
    gate_same i w e = let q : ViewIsSound b (i, w) = Each-from_zero (ViewIsSound b) b.views i w sound.views e in gated_same w.gate (codes "swwe$") (codes "swwel$") w.path (wide 1 (gate_refs w.gate) q.gate_bit)

    -- what is made of a slot depends on its view's gate
    slot_same : {X : Type 0} (g h : View → X) (d : X) (s : Slot)
        → ((i : ℕ) (w : View) → slice_get b.views i ≡ Some w → g w ≡ h w) → option_map_or g (slice_get b.views s.view) d ≡ option_map_or h (slice_get b.views s.view) d
    slot_same {X} g h d s e = at (slice_get b.views s.view) refl
      where
        at : (o : Option View) → slice_get b.views s.view ≡ o → option_map_or g o d ≡ option_map_or h o d
        at None q = refl
        at (Some w) q = e s.view w q

    written_same : (k : ℕ) (f : Field) (d x : ℕ) (s : Slot) → slot_written b n u k f d x s ≡ slot_written b n v k f d x s
    written_same k f d x s = slot_same
        (λ w. if w.field == k then after_write w f.width (view_gate n u w) (n.kept (Done k)) x (slot_bits s d) else x)
        (λ w. if w.field == k then after_write w f.width (view_gate n v w) (n.kept (Done k)) x (slot_bits s d) else x) x s
        (λ i w e. ap (λ g. if w.field == k then after_write w f.width g (n.kept (Done k)) x (slot_bits s d) else x) (gate_same i w e))

    software_same : (a : Access) (k : ℕ) (f : Field) (x : ℕ) → software b n u a k f x ≡ software b n v a k f x
    software_same NoAccess k f x = refl
    software_same (Read i) k f x = refl
    software_same (Write i d) k f x = fold_same (slot_written b n u k f d) (slot_written b n v k f d) (λ y s. written_same k f d y s) x (slots_of b.writes i)

    uses_up_same : (a : Access) (k : ℕ) → uses_up b n u a k ≡ uses_up b n v a k
    uses_up_same NoAccess k = refl
    uses_up_same (Read i) k = refl
    uses_up_same (Write i d) k = any_same (shows b k (λ w. w.once && acts w (view_gate n u w) (n.kept (Done k)))) (shows b k (λ w. w.once && acts w (view_gate n v w) (n.kept (Done k))))
        (λ s. slot_same (λ w. w.field == k && (w.once && acts w (view_gate n u w) (n.kept (Done k)))) (λ w. w.field == k && (w.once && acts w (view_gate n v w) (n.kept (Done k)))) false s
        (λ i w e. ap (λ g. w.field == k && (w.once && acts w g (n.kept (Done k)))) (gate_same i w e)))
        (slots_of b.writes i)

    if_same : (c : Bool) (p q x y : ℕ) → p ≡ q → x ≡ y → (if c then p else x) ≡ (if c then q else y)
    if_same true p q x y h g = h
    if_same false p q x y h g = g

    changed_same : (k : ℕ) (f : Field) → RefersWell b f → (x : ℕ) → changed b n u k f x ≡ changed b n v k f x
    changed_same k f r x = if_same f.hw_first _ _ _ _
        (hardware_same k f _ r ∙ ap (λ y. hardware n v k f y) (software_same n.access k f x))
        (software_same n.access k f _ ∙ ap (λ y. software b n v n.access k f y) (hardware_same k f x r))

    field_same : (g h : Field → ℕ) (k : ℕ) → ((f : Field) → RefersWell b f → g f ≡ h f) → of_field b k 0 g ≡ of_field b k 0 h
    field_same g h k e = at (slice_get b.fields k) refl
      where
        at : (o : Option Field) → slice_get b.fields k ≡ o → option_map_or g o 0 ≡ option_map_or h o 0
        at None q = refl
        at (Some f) q = let r : FieldIsSoundIn b (k, f) = Each-from_zero (FieldIsSoundIn b) b.fields k f sound.fields q in e f r.refers

    pub moved_same : (q : Kept) → moved b n u q ≡ moved b n v q
    moved_same (Val k) = field_same (λ f. changed b n u k f (n.kept (Val k))) (λ f. changed b n v k f (n.kept (Val k))) k (λ f r. changed_same k f r (n.kept (Val k)))
    moved_same (Last k) = field_same (λ f. source_value n u f) (λ f. source_value n v f) k (λ f r. fed_same n u v f.source (codes "in$" ++ f.path) (wide f.width (feed_refs f.source) r.source))
    moved_same (Done k) = ap (λ c. if c then 1 else n.kept (Done k)) (uses_up_same n.access k)
    moved_same Waited = refl
    moved_same Data = refl
    moved_same Error = refl

    pub next_same : (q : Kept) → next b n u q ≡ next b n v q
    next_same (Val k) = rw (moved_same (Val k)) refl
    next_same (Last k) = rw (moved_same (Last k)) refl
    next_same (Done k) = rw (moved_same (Done k)) refl
    next_same Waited = refl
    next_same Data = refl
    next_same Error = refl

    value_same : (s : Slot) → slot_value b u s ≡ slot_value b v s
    value_same s = slot_same
        (λ w. if w.reads then part (u (item.Field w.field)) (s.from + s.bits - 1) s.from * 2 ^ s.low else 0)
        (λ w. if w.reads then part (v (item.Field w.field)) (s.from + s.bits - 1) s.from * 2 ^ s.low else 0) 0 s
        (λ i w e. let q : ViewIsSound b (i, w) = Each-from_zero (ViewIsSound b) b.views i w sound.views e in
        ap (λ x. if w.reads then part x (s.from + s.bits - 1) s.from * 2 ^ s.low else 0) (same (item.Field w.field) (value_among b w.field q.of.0 q.of.1)))

    pub read_same : (a : Access) → read_data b u a ≡ read_data b v a
    read_same NoAccess = refl
    read_same (Write i d) = refl
    read_same (Read i) = fold_same (λ acc s. bit_or acc (slot_value b u s)) (λ acc s. bit_or acc (slot_value b v s)) (λ acc s. ap (bit_or acc) (value_same s)) 0 (slots_of b.reads i)

    pub outputs_same : outputs b u ≡ outputs b v
    outputs_same = outlets_same u v (outlets b) (Each-weaker (λ o. Contains (items b) o.item) (λ o. u o.item ≡ v o.item) (λ o c. same o.item c) (outlets b) (outlets_among b sound))
