-- What an edge makes depends on the values of the wanted items alone.
use Rattle.std.proofs.Common.{◌≡◌, ℕ, suc, ◌+◌, ◌-◌, ◌*◌, ◌^◌, ◌==◌, Bool, true, if◌then◌else◌, Option, Some, None, List, [], ◌∷◌, ◌++◌, codes, slice_get, map, fold, refl, ap, ◌∙◌}
use Rattle.std.specs.Prelude.{Contains, bit_or}
use Rattle.std.specs.Option.{option_map, option_map_or}
use Rattle.std.proofs.lemmas.Option.{get_or_from_slice_get, slice_get_within}
use Rattle.rb_base.specs.Bits.{part}
use Rattle.rb_model.specs.declared.kinds.RefItem.{RefItem}
use Rattle.rb_model.specs.declared.kinds.RefItem.TheVariants as item
use Rattle.rb_model.specs.declared.kinds.Gate.{Gate}
use Rattle.rb_model.specs.declared.kinds.Gate.TheVariants as gate
use Rattle.rb_model.specs.declared.kinds.Level.{Level}
use Rattle.rb_model.specs.declared.kinds.Count.{Count}
use Rattle.rb_model.specs.declared.block.Block.{Block}
use Rattle.rb_model.specs.declared.block.Field.{Field}
use Rattle.rb_model.specs.declared.block.View.{View}
use Rattle.rb_model.specs.declared.block.Slot.{Slot}
use Rattle.rb_model.specs.Effects.{counted, finished, latched, loaded}
use Rattle.rb_model.specs.Items.{Access, NoAccess, Read, Write, Now, ItemValues, fed, gated, items, level_value, mask_value, source_value, up, down, slots_of}
use Rattle.rb_model.specs.Kept.{Done, Last}
use Rattle.rb_model.specs.Machine.{counts, hardware, read_data, slot_value, view_gate}
use Rattle.rb_model.specs.Ports.{Outlet, outlets}
use Rattle.rb_model.specs.References.{Each, count_refs, feed_refs, gate_refs, mask_refs}
use Rattle.rb_model.specs.Sound.{IsSound, ViewIsSound}
use Rattle.rb_model.proofs.Eachs.{Each-at, Each-both, Each-from_zero, Each-left, Each-right}
use Rattle.rb_model.proofs.Made.{Agree, fed_same, level_same, mask_same, parts_same}
use Rattle.block_plan.specs.Needs.{hardware_refs, limit_refs, limits_refs}
use Rattle.block_plan.specs.Wanted.{AreInOrder, IsAllWanted, is_wanted}
use Rattle.rb_machine.specs.declared.sight.FieldState.{FieldState}
use Rattle.rb_machine.specs.Moves.{next_state, started_state}
use Rattle.rb_machine.specs.Slots.{access_state, touched, width_at, write_state, written_by}
use Rattle.block_plan.proofs.Among.{outlets_among, value_among}
use Rattle.block_plan.proofs.Wanting.{field_sound, hardware_own, view_own}

-- two valuations agree on what the behaviour of a block refers to
pub record AreAlike (b : Block) (u v : ItemValues) : Type 0 where
  pub values : (k : ℕ) (f : Field) → slice_get b.fields k ≡ Some f → u (item.Field k) ≡ v (item.Field k)
  pub fields : (k : ℕ) (f : Field) → slice_get b.fields k ≡ Some f → Agree u v (hardware_refs f)
  pub views : (k : ℕ) (w : View) → slice_get b.views k ≡ Some w → Agree u v (gate_refs w.gate)
  pub shown : Each (λ (o : Outlet). u o.item ≡ v o.item) (outlets b)

by_index : {X : Type 0} (P : X → Type 0) (xs : List X) → ((k : ℕ) (x : X) → slice_get xs k ≡ Some x → P x) → Each P xs
by_index P [] h = tt
by_index P (x ∷ xs) h = (h 0 x refl, by_index P xs (λ k y e. h (suc k) y e))

-- so they do where they agree on the wanted items
pub are_alike : (b : Block) (w : List Bool) (is : List RefItem) (u v : ItemValues) → IsSound b → IsAllWanted b w → AreInOrder b w is → ((i : RefItem) → Contains is i → u i ≡ v i) → AreAlike b u v
are_alike b w is u v sound all listed same = record {
  values = λ k f here. one (item.Field k) (value_among b k f here) (all.values k f here);
  fields = λ k f here. these (hardware_refs f) (hardware_own b f (field_sound b sound k f here).refers) (all.fields k f here);
  views = λ k x here. these (gate_refs x.gate) (view_own b sound k x here) (all.views k x here);
  shown = by_index (λ o. u o.item ≡ v o.item) (outlets b) (λ k o here. one o.item (Each-at (λ o. Contains (items b) o.item) (outlets b) k o (outlets_among b sound) here) (all.shown o (among (outlets b) k o here)));
}
  where
    one : (i : RefItem) → Contains (items b) i → is_wanted w i ≡ true → u i ≡ v i
    one i c q = same i (listed.all i c q)

    these : (js : List RefItem) → Each (λ i. Contains (items b) i) js → Each (λ i. is_wanted w i ≡ true) js → Agree u v js
    these = Each-both (λ i. Contains (items b) i) (λ i. is_wanted w i ≡ true) (λ i. u i ≡ v i) one

    among : {X : Type 0} (xs : List X) (k : ℕ) (x : X) → slice_get xs k ≡ Some x → Contains xs x
    among xs k x here = (k, slice_get_within xs k x here, get_or_from_slice_get xs k x x here)

module _ (n : Now) (u v : ItemValues) where
  gate_same : (g : Gate) (high low path : List ℕ) → Agree u v (gate_refs g) → gated n u g high low path ≡ gated n v g high low path
  gate_same gate.Always high low path h = refl
  gate_same (gate.High from) high low path h = fed_same n u v from (high ++ path) h
  gate_same (gate.Low from) high low path h = fed_same n u v from (low ++ path) h

  limit_same : (o : Option Level) → Agree u v (limit_refs o) → option_map (level_value u) o ≡ option_map (level_value v) o
  limit_same None h = refl
  limit_same (Some l) h = ap Some (level_same n u v l h)

  limits_same : (w x up down : ℕ) (o : Option Count) → Agree u v (limits_refs o)
      → option_map_or (λ c. counted w x up down (option_map (level_value u) c.high) (option_map (level_value u) c.low)) o x
      ≡ option_map_or (λ c. counted w x up down (option_map (level_value v) c.high) (option_map (level_value v) c.low)) o x
  limits_same w x up down None h = refl
  limits_same w x up down (Some c) h =
      let P : RefItem → Type 0 = λ i. u i ≡ v i in
      let high = limit_same c.high (Each-left P (limit_refs c.high) (limit_refs c.low) h) in
      let low = limit_same c.low (Each-right P (limit_refs c.high) (limit_refs c.low) h) in
      rw (high, low) refl

  counts_same : (f : Field) (x : ℕ) → Agree u v (count_refs f.count) → Agree u v (limits_refs f.count) → counts n u f x ≡ counts n v f x
  counts_same f x h g =
      let e : (up n u f ≡ up n v f) × (down n u f ≡ down n v f) = parts_same n u v f.count f.path h in
      rw (e.0, e.1) (limits_same f.width x (up n v f) (down n v f) f.count g)

  module _ (k : ℕ) (f : Field) (h : Agree u v (hardware_refs f)) where
    abbrev P : RefItem → Type 0
    P i = u i ≡ v i

    to_clear : Agree u v (feed_refs f.source ++ gate_refs f.gate ++ count_refs f.count ++ limits_refs f.count ++ feed_refs f.set ++ feed_refs f.clear)
    to_clear = Each-left P _ (mask_refs f.keep) h

    to_set : Agree u v (feed_refs f.source ++ gate_refs f.gate ++ count_refs f.count ++ limits_refs f.count ++ feed_refs f.set)
    to_set = Each-left P _ (feed_refs f.clear) to_clear

    to_limits : Agree u v (feed_refs f.source ++ gate_refs f.gate ++ count_refs f.count ++ limits_refs f.count)
    to_limits = Each-left P _ (feed_refs f.set) to_set

    to_count : Agree u v (feed_refs f.source ++ gate_refs f.gate ++ count_refs f.count)
    to_count = Each-left P _ (limits_refs f.count) to_limits

    to_gate : Agree u v (feed_refs f.source ++ gate_refs f.gate)
    to_gate = Each-left P _ (count_refs f.count) to_count

    pub source_same : source_value n u f ≡ source_value n v f
    source_same = fed_same n u v f.source (codes "in$" ++ f.path) (Each-left P (feed_refs f.source) (gate_refs f.gate) to_gate)

    pub hardware_same : (x : ℕ) → hardware n u k f x ≡ hardware n v k f x
    hardware_same x =
        let g : gated n u f.gate (codes "we$") (codes "wel$") f.path ≡ gated n v f.gate (codes "we$") (codes "wel$") f.path = gate_same f.gate (codes "we$") (codes "wel$") f.path (Each-right P (feed_refs f.source) (gate_refs f.gate) to_gate) in
        let t : fed n u f.set (codes "hwset$" ++ f.path) ≡ fed n v f.set (codes "hwset$" ++ f.path) = fed_same n u v f.set _ (Each-right P (feed_refs f.source ++ gate_refs f.gate ++ count_refs f.count ++ limits_refs f.count) (feed_refs f.set) to_set) in
        let c : fed n u f.clear (codes "hwclr$" ++ f.path) ≡ fed n v f.clear (codes "hwclr$" ++ f.path) =
        fed_same n u v f.clear _ (Each-right P (feed_refs f.source ++ gate_refs f.gate ++ count_refs f.count ++ limits_refs f.count ++ feed_refs f.set) (feed_refs f.clear) to_clear) in
        let m : mask_value u f.keep ≡ mask_value v f.keep =
        mask_same n u v f.keep (Each-right P (feed_refs f.source ++ gate_refs f.gate ++ count_refs f.count ++ limits_refs f.count ++ feed_refs f.set ++ feed_refs f.clear) (mask_refs f.keep) h) in
        let y : ℕ = loaded f x (source_value n v f) (gated n v f.gate (codes "we$") (codes "wel$") f.path) in
        let q : counts n u f y ≡ counts n v f y = counts_same f y (Each-right P (feed_refs f.source ++ gate_refs f.gate) (count_refs f.count) to_count) (Each-right P (feed_refs f.source ++ gate_refs f.gate ++ count_refs f.count) (limits_refs f.count) to_limits) in
        rw (source_same, g, t, c, m) (ap (λ z. finished f x (latched f.latch f.width z (source_value n v f) (n.kept (Last k))) (fed n v f.set (codes "hwset$" ++ f.path)) (fed n v f.clear (codes "hwclr$" ++ f.path)) (mask_value v f.keep)) q)

    pub started_same : (x : FieldState) → started_state n u k f x ≡ started_state n v k f x
    started_same x = let h : hardware n u k f x.value ≡ hardware n v k f x.value = hardware_same x.value in rw (h, source_same) refl

    pub next_same : (b : Block) (x : FieldState) → next_state b n u k f x ≡ next_state b n v k f x
    next_same b x = let h : hardware n u k f x.value ≡ hardware n v k f x.value = hardware_same x.value in rw h refl

module _ (b : Block) (sound : IsSound b) (n : Now) (u v : ItemValues) (alike : AreAlike b u v) where
  pub view_same : (i : ℕ) (w : View) → slice_get b.views i ≡ Some w → view_gate n u w ≡ view_gate n v w
  view_same i w here = gate_same n u v w.gate (codes "swwe$") (codes "swwel$") w.path (alike.views i w here)

  fold_same : {A X : Type 0} (f g : A → X → A) → ((a : A) (x : X) → f a x ≡ g a x) → (a : A) (xs : List X) → fold f a xs ≡ fold g a xs
  fold_same f g h a [] = refl
  fold_same f g h a (x ∷ xs) = rw (h a x) (fold_same f g h (g a x) xs)

  slot_same : (s : Slot) → slot_value b u s ≡ slot_value b v s
  slot_same s = by (slice_get b.views s.view) refl
    where
      shown : ItemValues → View → ℕ
      shown l w = if w.reads then part (l (item.Field w.field)) (s.from + s.bits - 1) s.from * 2 ^ s.low else 0

      by : (o : Option View) → slice_get b.views s.view ≡ o → option_map_or (shown u) o 0 ≡ option_map_or (shown v) o 0
      by None here = refl
      by (Some w) here =
          let q : ViewIsSound b (s.view, w) = Each-from_zero (ViewIsSound b) b.views s.view w sound.views here in
          ap (λ x. if w.reads then part x (s.from + s.bits - 1) s.from * 2 ^ s.low else 0) (alike.values w.field q.of.0 q.of.1)

  access_same : (a : Access) (k : ℕ) (x : FieldState) → access_state b n u a k x ≡ access_state b n v a k x
  access_same NoAccess k x = refl
  access_same (Read i) k x = refl
  access_same (Write i d) k x = fold_same (touched b k (write_state b n u d)) (touched b k (write_state b n v d)) one x (slots_of b.writes i)
    where
      one : (x : FieldState) (s : Slot) → touched b k (write_state b n u d) x s ≡ touched b k (write_state b n v d) x s
      one x s = by (slice_get b.views s.view) refl
        where
          by : (o : Option View) → slice_get b.views s.view ≡ o → option_map_or (λ w. if w.field == k then write_state b n u d w s x else x) o x ≡ option_map_or (λ w. if w.field == k then write_state b n v d w s x else x) o x
          by None here = refl
          by (Some w) here = ap (λ g. if w.field == k then written_by (width_at b w.field) g (n.kept (Done w.field)) d w s x else x) (view_same s.view w here)

  -- what a field keeps
  pub moved_same : (a : Access) (k : ℕ) (f : Field) (x : FieldState) → slice_get b.fields k ≡ Some f
      → next_state b n u k f (access_state b n u a k (started_state n u k f x)) ≡ next_state b n v k f (access_state b n v a k (started_state n v k f x))
  moved_same a k f x here =
      let agree = alike.fields k f here in
      next_same n u v k f agree b (access_state b n u a k (started_state n u k f x))
      ∙ ap (next_state b n v k f) (access_same a k (started_state n u k f x) ∙ ap (access_state b n v a k) (started_same n u v k f agree x))

  pub read_same : (a : Access) → read_data b u a ≡ read_data b v a
  read_same NoAccess = refl
  read_same (Write i d) = refl
  read_same (Read i) = fold_same (λ acc s. bit_or acc (slot_value b u s)) (λ acc s. bit_or acc (slot_value b v s)) (λ acc s. ap (bit_or acc) (slot_same s)) 0 (slots_of b.reads i)

pub shown_same : (u v : ItemValues) (os : List Outlet) → Each (λ o. u o.item ≡ v o.item) os → map (λ o. u o.item) os ≡ map (λ o. v o.item) os
shown_same u v [] h = refl
shown_same u v (o ∷ os) h = let e : map (λ o. u o.item) os ≡ map (λ o. v o.item) os = shown_same u v os h.1 in rw (h.0, e) refl
