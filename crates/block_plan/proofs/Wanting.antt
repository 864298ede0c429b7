-- Which items are wanted, where all are.
use Rattle.std.proofs.Common.{◌≡◌, ℕ, suc, ◌<◌, ◌≤◌, Bool, true, Option, Some, None, List, [], ◌∷◌, ◌++◌, length, slice_get, refl, sym, subst}
use Rattle.std.specs.Prelude.{Contains}
use Rattle.std.proofs.lemmas.List.Sorted.{Contains-permutation}
use Rattle.std.proofs.lemmas.Option.{slice_get_read}
use Rattle.rb_model.specs.declared.kinds.RefItem.{RefItem}
use Rattle.rb_model.specs.declared.kinds.RefItem.TheVariants as item
use Rattle.rb_model.specs.declared.kinds.Part.{Part}
use Rattle.rb_model.specs.declared.kinds.Count.{Count}
use Rattle.rb_model.specs.declared.kinds.Level.{Level}
use Rattle.rb_model.specs.declared.block.Block.{Block}
use Rattle.rb_model.specs.declared.block.Field.{Field}
use Rattle.rb_model.specs.declared.block.View.{View}
use Rattle.rb_model.specs.Items.{items}
use Rattle.rb_model.specs.Ports.{Outlet, outlets}
use Rattle.rb_model.specs.References.{AreWide, AreWithin, Each, WithSome, amount_refs, count_refs, feed_refs, gate_refs, item_width, level_refs, mask_refs, part_refs}
use Rattle.rb_model.specs.SoundField.{FieldIsSoundIn, RefersWell}
use Rattle.rb_model.specs.Sound.{IsSound, ViewIsSound}
use Rattle.rb_model.proofs.Eachs.{Each-append, Each-at, Each-both, Each-from_zero, Each-left, Each-map, Each-right, Each-weaker}
use Rattle.block_plan.specs.declared.outlets.Outlet as plans
use Rattle.block_plan.specs.declared.plan.Plan.{Plan}
use Rattle.block_plan.specs.Outlets.{outlet_seen}
use Rattle.block_plan.specs.Plan.{IsPlanOf}
use Rattle.block_plan.specs.Table.{item_place}
use Rattle.block_plan.specs.Needs.{field_needs, hardware_refs, limit_refs, limits_refs}
use Rattle.block_plan.specs.Wanted.{AreIn, IsAllWanted, is_wanted}
use Rattle.block_plan.proofs.Among.{outlets_among, value_among}

pub field_sound : (b : Block) → IsSound b → (k : ℕ) (f : Field) → slice_get b.fields k ≡ Some f → FieldIsSoundIn b (k, f)
field_sound b sound k f here = Each-from_zero (FieldIsSoundIn b) b.fields k f sound.fields here

-- The items that hardware's steps refer to are the block's

abbrev pub Own : Block → List RefItem → Type 0
Own b is = Each (λ i. Contains (items b) i) is

wide_own : (b : Block) (w : ℕ) (is : List RefItem) → AreWide b w is → Own b is
wide_own b w is h = Each-weaker (λ i. Contains (items b) i × (item_width b i ≡ w)) (λ i. Contains (items b) i) (λ i q. q.0) is h

within_own : (b : Block) (w : ℕ) (is : List RefItem) → AreWithin b w is → Own b is
within_own b w is h = Each-weaker (λ i. Contains (items b) i × (item_width b i ≤ w)) (λ i. Contains (items b) i) (λ i q. q.0) is h

part_own : (b : Block) (w : ℕ) (o : Option Part) → WithSome o (λ p. AreWide b 1 (feed_refs p.pulse)) → WithSome o (λ p. AreWithin b w (amount_refs p.amount)) → Own b (part_refs o)
part_own b w None p q = tt
part_own b w (Some p) h q = Each-append _ (feed_refs p.pulse) (amount_refs p.amount) (wide_own b 1 (feed_refs p.pulse) h) (within_own b w (amount_refs p.amount) q)

limit_own : (b : Block) (w : ℕ) (o : Option Level) → WithSome o (λ l. AreWithin b w (level_refs l)) → Own b (limit_refs o)
limit_own b w None h = tt
limit_own b w (Some l) h = within_own b w (level_refs l) h

counts_own : (b : Block) (w : ℕ) (o : Option Count) → WithSome o (λ c. WithSome c.up (λ p. AreWide b 1 (feed_refs p.pulse)) × WithSome c.down (λ p. AreWide b 1 (feed_refs p.pulse)))
    → WithSome o (λ c. WithSome c.up (λ p. AreWithin b w (amount_refs p.amount)) × WithSome c.down (λ p. AreWithin b w (amount_refs p.amount))) → Own b (count_refs o)
counts_own b w None h q = tt
counts_own b w (Some c) h q = Each-append _ (part_refs c.up) (part_refs c.down) (part_own b w c.up h.0 q.0) (part_own b w c.down h.1 q.1)

limits_own : (b : Block) (w : ℕ) (o : Option Count) → WithSome o (λ c. WithSome c.high (λ l. AreWithin b w (level_refs l)) × WithSome c.low (λ l. AreWithin b w (level_refs l)) × AreWithin b w (level_refs c.above ++ level_refs c.below)) → Own b (limits_refs o)
limits_own b w None h = tt
limits_own b w (Some c) h = Each-append _ (limit_refs c.high) (limit_refs c.low) (limit_own b w c.high h.0) (limit_own b w c.low h.1)

pub hardware_own : (b : Block) (f : Field) → RefersWell b f → Own b (hardware_refs f)
hardware_own b f h =
    let P : RefItem → Type 0 = λ i. Contains (items b) i in
    let bits = wide_own b 1 (gate_refs f.gate ++ feed_refs f.set ++ feed_refs f.clear) h.bits in
    let masks = wide_own b f.width (mask_refs f.keep ++ mask_refs f.enable ++ mask_refs f.halt) h.masks in
    let first = Each-left P (gate_refs f.gate ++ feed_refs f.set) (feed_refs f.clear) bits in
    Each-append P (feed_refs f.source ++ gate_refs f.gate ++ count_refs f.count ++ limits_refs f.count ++ feed_refs f.set ++ feed_refs f.clear) (mask_refs f.keep)
    (Each-append P (feed_refs f.source ++ gate_refs f.gate ++ count_refs f.count ++ limits_refs f.count ++ feed_refs f.set) (feed_refs f.clear)
    (Each-append P (feed_refs f.source ++ gate_refs f.gate ++ count_refs f.count ++ limits_refs f.count) (feed_refs f.set)
    (Each-append P (feed_refs f.source ++ gate_refs f.gate ++ count_refs f.count) (limits_refs f.count)
    (Each-append P (feed_refs f.source ++ gate_refs f.gate) (count_refs f.count)
    (Each-append P (feed_refs f.source) (gate_refs f.gate) (wide_own b f.width (feed_refs f.source) h.source) (Each-left P (gate_refs f.gate) (feed_refs f.set) first))
    (counts_own b f.width f.count h.pulses h.amounts))
    (limits_own b f.width f.count h.levels))
    (Each-right P (gate_refs f.gate) (feed_refs f.set) first))
    (Each-right P (gate_refs f.gate ++ feed_refs f.set) (feed_refs f.clear) bits))
    (Each-left P (mask_refs f.keep) (mask_refs f.enable) (Each-left P (mask_refs f.keep ++ mask_refs f.enable) (mask_refs f.halt) masks))

pub view_own : (b : Block) → IsSound b → (k : ℕ) (u : View) → slice_get b.views k ≡ Some u → Own b (gate_refs u.gate)
view_own b sound k u here = let s : ViewIsSound b (k, u) = Each-from_zero (ViewIsSound b) b.views k u sound.views here in wide_own b 1 (gate_refs u.gate) s.gate_bit

-- Where these are wanted that have a place, all are that a netlist needs.

by_index : {X : Type 0} (P : X → Type 0) (xs : List X) → ((k : ℕ) (x : X) → slice_get xs k ≡ Some x → P x) → Each P xs
by_index P [] h = tt
by_index P (x ∷ xs) h = (h 0 x refl, by_index P xs (λ k y e. h (suc k) y e))

module _ (b : Block) (p : Plan) (w : List Bool) (sound : IsSound b) (planned : IsPlanOf b p) (room : (k : ℕ) (i : RefItem) → slice_get b.order k ≡ Some i → item_place i < length w) where
  place_low : (i : RefItem) → Contains (items b) i → item_place i < length w
  place_low i c = let (k, low, at) = Contains-permutation (items b) b.order i sound.all_items c in room k i (slice_get_read b.order (length b.order) k i refl low (sym at))

  are_wanted : (is : List RefItem) → Own b is → AreIn w is → Each (λ i. is_wanted w i ≡ true) is
  are_wanted = Each-both (λ i. Contains (items b) i) (λ i. item_place i < length w → is_wanted w i ≡ true) (λ i. is_wanted w i ≡ true) (λ i c h. h (place_low i c))

  module _ (outs : (k : ℕ) (o : plans.Outlet) → slice_get p.outlets.items k ≡ Some o → AreIn w (o.item ∷ [])) (fields : (k : ℕ) (f : Field) → slice_get b.fields k ≡ Some f → AreIn w (field_needs k f)) (views : (k : ℕ) (u : View) → slice_get b.views k ≡ Some u → AreIn w (gate_refs u.gate)) where
    shown_in : Each (λ (o : Outlet). item_place o.item < length w → is_wanted w o.item ≡ true) (outlets b)
    shown_in = subst (Each (λ (o : Outlet). item_place o.item < length w → is_wanted w o.item ≡ true)) planned.outlets
        (Each-map (λ (o : Outlet). item_place o.item < length w → is_wanted w o.item ≡ true) outlet_seen p.outlets.items (by_index (λ o. item_place o.item < length w → is_wanted w o.item ≡ true) p.outlets.items (λ k o here. (outs k o here).0)))

    pub all_wanted : IsAllWanted b w
    all_wanted = record {
      shown = λ o c.
          let (j, low, at) = c in
          let there : slice_get (outlets b) j ≡ Some o = slice_get_read (outlets b) (length (outlets b)) j o refl low (sym at) in
          Each-at (λ o. item_place o.item < length w → is_wanted w o.item ≡ true) (outlets b) j o shown_in there (place_low o.item (Each-at (λ o. Contains (items b) o.item) (outlets b) j o (outlets_among b sound) there));
      values = λ k f here. (fields k f here).0 (place_low (item.Field k) (value_among b k f here));
      fields = λ k f here. are_wanted (hardware_refs f) (hardware_own b f (field_sound b sound k f here).refers) (fields k f here).1;
      views = λ k u here. are_wanted (gate_refs u.gate) (view_own b sound k u here) (views k u here);
    }
