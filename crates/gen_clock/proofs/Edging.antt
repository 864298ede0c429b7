-- What software and hardware make of a field, in the order of its precedence.
use Rattle.std.proofs.Common.{◌≡◌, ℕ, nat_lt, Bool, true, false, not, ◌&&◌, ◌||◌, if◌then◌else◌, Some, List, [], ◌∷◌, length, fold, slice_get, refl, sym, ap, ◌∙◌, subst, arith}
use Rattle.std.specs.List.{list_any}
use Rattle.std.specs.Option.{option_map_or}
use Rattle.std.proofs.lemmas.Option.{slice_get_within}
use Rattle.rtl_net.specs.Net.{Net, Grows}
use Rattle.rtl_net.specs.Ids.{at}
use Rattle.rtl_net.specs.declared.node.Id.{Id}
use Rattle.rb_model.specs.declared.kinds.Class.{Class}
use Rattle.rb_model.specs.declared.kinds.Class.TheVariants.{Storage, Wire, Constant}
use Rattle.rb_model.specs.declared.kinds.RefItem.{RefItem}
use Rattle.rb_model.specs.declared.kinds.RefItem.TheVariants as item
use Rattle.rb_model.specs.declared.block.Block.{Block}
use Rattle.rb_model.specs.declared.block.Field.{Field}
use Rattle.rb_model.specs.declared.block.Slot.{Slot}
use Rattle.rb_model.specs.Effects.{acts}
use Rattle.rb_model.specs.Kept.{Done, Val, is_storage}
use Rattle.rb_model.specs.Items.{Access, NoAccess, Read, Write, Now, ItemValues, AreItemValues, class_value, shows, slots_of}
use Rattle.rb_model.specs.Machine.{changed, hardware, slot_read, slot_written, software, uses_up, view_gate}
use Rattle.std.specs.Prelude.{Contains}
use Rattle.std.specs.List.{enumerate_from, flat_map}
use Rattle.std.proofs.lemmas.List.Elements.{Contains-append_left, Contains-append_right}
use Rattle.plain_lemmas.proofs.Numbers.{below-nat_lt as within}
use Rattle.rtl_net.proofs.Places.{item_at}
use Rattle.rb_model.specs.Items.{field_items, items, reg_items}
use Rattle.rb_model.proofs.Eachs.{Each-from_zero, Each-parts}
use Rattle.block_plan.specs.Behind.{IsThere}
use Rattle.block_plan.specs.Table.{item_place}
use Rattle.gen_scene.specs.declared.base.Inlet.{Inlet}
use Rattle.gen_scene.specs.declared.scene.Scene.{Scene}
use Rattle.gen_scene.specs.Worth.{IsWorth}
use Rattle.gen_scene.proofs.Worths.{IsBase-grows, IsItem-grows, worth_as}
use Rattle.gen_access.specs.declared.software.Effect.TheVariants as effect
use Rattle.gen_access.specs.Tables.{AreNodes, AreWorth, Changes}
use Rattle.gen_access.specs.Words.{below, data_of, read_word, written_word}
use Rattle.gen_access.specs.Effects.{reached_by, slot_effect, words_of}
use Rattle.gen_access.specs.Touches.{one_bit}
use Rattle.gen_access.proofs.Turns.{HasViews-grows, Changes-trans}
use Rattle.gen_clock.specs.Moves.{moved_in}
use Rattle.gen_clock.proofs.Sweeps.{HasFields-grows}
use Rattle.gen_clock.specs.Edges.{AreMoved, AreUsed, AreValues, HasPlaces, IsScene, edge_step}

pub IsScene-grows : (old new : Net) (s : Scene) → Grows old new → IsScene old s → IsScene new s
IsScene-grows old new s h v = record {
  base = IsBase-grows old new h s.base.now v.base;
  values = λ k f e. IsItem-grows s.base.now.block.now s.base.now.inlet old new s.items.now (item.Field k) h (v.values k f e);
  fields = HasFields-grows old new s h v.fields;
  views = HasViews-grows old new s h v.views;
}

-- the accessed word is among all words
pub software_is : (b : Block) (n : Now) (v : ItemValues) (k : ℕ) (f : Field) (x : ℕ) → IsThere b n.access
    → below (words_of b effect.Read) (reached_by effect.Read) (slot_effect b effect.Read) (length (words_of b effect.Read)) n v k f
    (below (words_of b effect.Written) (reached_by effect.Written) (slot_effect b effect.Written) (length (words_of b effect.Written)) n v k f x)
    ≡ software b n v n.access k f x
software_is b n v k f x there = by n.access refl there
  where
    by : (a : Access) → n.access ≡ a → IsThere b a
        → option_map_or (λ i. if nat_lt i (length b.reads) then fold (slot_read b k f)
        (option_map_or (λ i. if nat_lt i (length b.writes) then fold (slot_written b n v k f (data_of n.access)) x (slots_of b.writes i) else x) (written_word a) x) (slots_of b.reads i)
        else option_map_or (λ i. if nat_lt i (length b.writes) then fold (slot_written b n v k f (data_of n.access)) x (slots_of b.writes i) else x) (written_word a) x)
        (read_word a) (option_map_or (λ i. if nat_lt i (length b.writes) then fold (slot_written b n v k f (data_of n.access)) x (slots_of b.writes i) else x) (written_word a) x)
        ≡ software b n v a k f x
    by NoAccess e t = refl
    by (Read i) e t = ap (λ c. if c then fold (slot_read b k f) x (slots_of b.reads i) else x) (within i (length b.reads) t)
    by (Write i d) e t = ap (λ c. if c then fold (slot_written b n v k f (data_of n.access)) x (slots_of b.writes i) else x) (within i (length b.writes) t)
        ∙ ap (λ z. fold (slot_written b n v k f z) x (slots_of b.writes i)) (ap data_of e)

-- one edge from a field's value
pub changed_is : (b : Block) (n : Now) (v : ItemValues) (k : ℕ) (f : Field) (x : ℕ) → is_storage f.class ≡ true → edge_step b n v k f x ≡ changed b n v k f x
changed_is b n v k f x storage = by f.hw_first storage
  where
    by : (first : Bool) → is_storage f.class ≡ true
        → (if is_storage f.class && first then hardware n v k f (software b n v n.access k f (if is_storage f.class && not first then hardware n v k f x else x)) else software b n v n.access k f (if is_storage f.class && not first then hardware n v k f x else x))
        ≡ (if first then hardware n v k f (software b n v n.access k f x) else software b n v n.access k f (hardware n v k f x))
    by true s = rw s refl
    by false s = rw s refl

-- a field's value is an item of the block
value_among : (b : Block) (k : ℕ) (f : Field) → slice_get b.fields k ≡ Some f → Contains (items b) (item.Field k)
value_among b k f e =
    Contains-append_left _ (flat_map reg_items (enumerate_from 0 b.regs)) (item.Field k)
    (Contains-append_right (flat_map (λ s. item.Signal s.0 ∷ []) (enumerate_from 0 b.signals)) (flat_map field_items (enumerate_from 0 b.fields)) (item.Field k)
    (Each-from_zero (λ x. (y : RefItem) → Contains (field_items x) y → Contains (flat_map field_items (enumerate_from 0 b.fields)) y) b.fields k f (Each-parts field_items (enumerate_from 0 b.fields)) e (item.Field k) (0, omega arith, refl)))

pub has_places : (net : Net) (s : Scene) → IsScene net s → HasPlaces s
has_places net s h = record { each = λ k l. let r = item_at s.base.now.block.now.fields k l in (h.values k r.0 r.1).within }

-- a field that keeps a value has it
pub value_is : (b : Block) (n : Now) (v : ItemValues) (k : ℕ) (f : Field) → AreItemValues b n v → slice_get b.fields k ≡ Some f → is_storage f.class ≡ true → v (item.Field k) ≡ n.kept (Val k)
value_is b n v k f valued here storage =
    valued (item.Field k) (value_among b k f here) ∙ ap (λ o. option_map_or (λ f. class_value n v f.class k f) o 0) here ∙ by f.class storage
  where
    by : (c : Class) → is_storage c ≡ true → class_value n v c k f ≡ n.kept (Val k)
    by Storage e = refl
    by Wire e = cc
    by Constant e = cc

pub values_worth : (net : Net) (s : Scene) (ids : List Id) → IsScene net s → AreValues s ids → AreWorth s.base.now.block.now s.base.now.inlet net ids (λ f. f.width) (λ k f n v. v (item.Field k))
values_worth net s ids scene values = record {
  each = λ k f e.
      let b = s.base.now.block.now in
      let a = s.base.now.inlet in
      let i = scene.values k f e in
      let low = slice_get_within b.fields k f e in
      let same : at ids k ≡ at s.items.now (item_place (item.Field k)) = values.each k (let l = values.long in omega arith) in
      let wide = ap (λ o. option_map_or (λ g. g.width) o 0) e in
      subst (λ x. IsWorth b a net x f.width (λ n v. v (item.Field k))) (sym same) (worth_as b a net (at s.items.now (item_place (item.Field k))) _ f.width (λ n v. v (item.Field k)) (λ n v. v (item.Field k)) i.worth wide (λ n v c. refl));
}

pub values_stand : (net : Net) (s : Scene) (ids : List Id) → IsScene net s → AreValues s ids → AreNodes s.base.now.block.now net ids (λ f. f.width)
values_stand net s ids scene values = record { long = values.long; each = λ k f e. ((values_worth net s ids scene values).each k f e).stands }

pub all_moved : (b : Block) (a : Inlet) (old new : Net) (before after : List Id) → length after ≡ length b.fields → Changes b a old new before after (λ f. f.width) (edge_step b)
    → AreWorth b a old before (λ f. f.width) (λ k f n v. v (item.Field k)) → AreMoved b a new after
all_moved b a old new before after long changes worth = record {
  long = long;
  each = λ k f e storage.
      let r = (changes.worth (λ k f n v. v (item.Field k)) worth).each k f e in
      record { stands = r.stands; value = λ x q n found items c. r.value x q n found items c ∙ changed_is b n items k f (items (item.Field k)) storage ∙ ap (changed b n items k f) (value_is b n items k f c e storage) };
}

-- The end of being writable once

used_fold : (t : Slot → Bool) (x : ℕ) (slots : List Slot) → fold (λ (x : ℕ) s. if t s then 1 else x) x slots ≡ (if list_any t slots then 1 else x)
used_fold t x [] = refl
used_fold t x (s ∷ ss) = by (t s) (used_fold t x ss) (used_fold t 1 ss)
  where
    same : (c : Bool) (y : ℕ) → (if c then y else y) ≡ y
    same true y = refl
    same false y = refl

    by : (c : Bool) → fold (λ (x : ℕ) s. if t s then 1 else x) x ss ≡ (if list_any t ss then 1 else x) → fold (λ (x : ℕ) s. if t s then 1 else x) 1 ss ≡ (if list_any t ss then 1 else 1)
        → fold (λ (x : ℕ) s. if t s then 1 else x) (if c then 1 else x) ss ≡ (if c || list_any t ss then 1 else x)
    by true p q = q ∙ same (list_any t ss) 1
    by false p q = p

pub used_is : (b : Block) (n : Now) (v : ItemValues) (k : ℕ) (f : Field) (x : ℕ) → IsThere b n.access
    → below (words_of b effect.Used) (reached_by effect.Used) (slot_effect b effect.Used) (length (words_of b effect.Used)) n v k f x ≡ (if uses_up b n v n.access k then 1 else x)
used_is b n v k f x there = by n.access there
  where
    by : (a : Access) → IsThere b a → option_map_or (λ i. if nat_lt i (length b.writes) then fold (λ (x : ℕ) s. if shows b k (λ w. w.once && acts w (view_gate n v w) (n.kept (Done k))) s then 1 else x) x (slots_of b.writes i) else x) (written_word a) x
        ≡ (if uses_up b n v a k then 1 else x)
    by NoAccess t = refl
    by (Read i) t = refl
    by (Write i d) t =
        ap (λ c. if c then fold (λ (x : ℕ) s. if shows b k (λ w. w.once && acts w (view_gate n v w) (n.kept (Done k))) s then 1 else x) x (slots_of b.writes i) else x) (within i (length b.writes) t)
        ∙ used_fold (shows b k (λ w. w.once && acts w (view_gate n v w) (n.kept (Done k)))) x (slots_of b.writes i)

pub all_used : (b : Block) (a : Inlet) (old new : Net) (before after : List Id) → length after ≡ length b.fields
    → Changes b a old new before after one_bit (below (words_of b effect.Used) (reached_by effect.Used) (slot_effect b effect.Used) (length (words_of b effect.Used)))
    → AreWorth b a old before one_bit (λ k f n v. if f.once then n.kept (Done k) else 0) → AreUsed b a new after
all_used b a old new before after long changes worth = record {
  long = long;
  each = λ k f e once.
      let r = (changes.worth (λ k f n v. if f.once then n.kept (Done k) else 0) worth).each k f e in
      record { stands = r.stands; value = λ x q n found items c. r.value x q n found items c ∙ used_is b n items k f (if f.once then n.kept (Done k) else 0) found.there ∙ ap (λ z. if uses_up b n items n.access k then 1 else (if z then n.kept (Done k) else 0)) once };
}

-- The four passes of an edge
pub edge_passes : (b : Block) (a : Inlet) (n0 n1 n2 n3 n4 : Net) (t0 t1 t2 t3 t4 : List Id)
    → Changes b a n0 n1 t0 t1 (λ f. f.width) (moved_in false)
    → Changes b a n1 n2 t1 t2 (λ f. f.width) (below (words_of b effect.Written) (reached_by effect.Written) (slot_effect b effect.Written) (length (words_of b effect.Written)))
    → Changes b a n2 n3 t2 t3 (λ f. f.width) (below (words_of b effect.Read) (reached_by effect.Read) (slot_effect b effect.Read) (length (words_of b effect.Read)))
    → Changes b a n3 n4 t3 t4 (λ f. f.width) (moved_in true) → Changes b a n0 n4 t0 t4 (λ f. f.width) (edge_step b)
edge_passes b a n0 n1 n2 n3 n4 t0 t1 t2 t3 t4 p q r s =
    let soft = Changes-trans b a n1 n2 n3 t1 t2 t3 (λ f. f.width) _ _ (λ n v k f x. software b n v n.access k f x) (λ n v there c k f x. software_is b n v k f x there) q r in
    let start = Changes-trans b a n0 n1 n3 t0 t1 t3 (λ f. f.width) _ _ (λ n v k f x. software b n v n.access k f (moved_in false n v k f x)) (λ n v there c k f x. refl) p soft in
    Changes-trans b a n0 n3 n4 t0 t3 t4 (λ f. f.width) _ _ (edge_step b) (λ n v there c k f x. refl) start s
