-- The values of a sound block's items are within their widths.
use Rattle.std.proofs.Common.{◌≡◌, ℕ, zero, suc, ◌+◌, ◌-◌, ◌^◌, ◌<◌, ◌≤◌, ◌%◌, ◌==◌, Bool, true, false, not, ◌&&◌, ◌||◌, nat_lt, nat_le, if◌then◌else◌, Option, Some, None, is_some, unwrap_or, List, [], ◌∷◌, ◌++◌, codes, length, slice_get, get_or, map, refl, ap, sym, ◌∙◌, subst, count_ones, mod-lt, arith}
use Rattle.std.specs.Prelude.{Contains, All, IsTrue}
use Rattle.std.specs.List.{enumerate_from, flat_map, list_any}
use Rattle.std.specs.Option.{option_map_or}
use Rattle.std.proofs.Math.Pow.{pow_pos, pow_mono}
use Rattle.std.proofs.lemmas.List.Sorted.{Contains-permutation, IsPermutation-sym}
use Rattle.std.proofs.lemmas.List.Elements.{All-contains, Contains-append_left, Contains-append_right}
use Rattle.std.proofs.lemmas.Option.{slice_get_read, slice_get_within, get_or_from_slice_get, same_Some}
use Rattle.rb_base.specs.Bits.{ones}
use Rattle.rb_base.specs.declared.ports.Pin.{Pin}
use Rattle.v_design.specs.Expr.{Values, bit_of}
use Rattle.v_design.specs.Fits.{FitsPins}
use Rattle.rb_model.specs.declared.kinds.RefItem.{RefItem}
use Rattle.rb_model.specs.declared.kinds.RefItem.TheVariants as item
use Rattle.rb_model.specs.declared.kinds.Class.{Class}
use Rattle.rb_model.specs.declared.kinds.Class.TheVariants.{Storage, Wire, Constant}
use Rattle.rb_model.specs.declared.kinds.Feed.{Feed}
use Rattle.rb_model.specs.declared.kinds.Feed.TheVariants as feed
use Rattle.rb_model.specs.declared.kinds.Level.{Level}
use Rattle.rb_model.specs.declared.kinds.Level.TheVariants as level
use Rattle.rb_model.specs.declared.kinds.Count.{Count}
use Rattle.rb_model.specs.declared.block.Block.{Block}
use Rattle.rb_model.specs.declared.block.Field.{Field}
use Rattle.rb_model.specs.declared.block.Signal.{Signal}
use Rattle.rb_model.specs.Kept.{Kept, Val, Last, Done, Map, when, of_field, is_storage, keeps_last, kept, kept_of, has_wait, Waited, Data, Error, register_width, Fits}
use Rattle.rb_model.specs.Ports.{pin, signal_name, input_pins, by_name}
use Rattle.rb_model.specs.Effects.{overflows, underflows}
use Rattle.rb_model.specs.Items.{Now, ItemValues, AreItemValues, items, made, fed, class_value, source_value, level_value, up, down}
use Rattle.rb_model.specs.References.{Each, WithSome, refs, item_width, AreWide, AreWithin, class_refs, feed_refs, StandsBefore, IsOrdered}
use Rattle.rb_model.specs.SoundField.{FieldIsSoundIn, FieldIsSound, RefersWell}
use Rattle.rb_model.specs.Sound.{IsSound}
use Rattle.rb_model.specs.Run.{pins_of}
use Rattle.rb_model.proofs.Eachs.{Each-weaker, Each-both, Each-at, Each-from_zero, Each-parts}
use Rattle.rb_model.proofs.Apart.{Apart}
use Rattle.rb_model.proofs.FieldNames.{pin_names}
use Rattle.rb_model.proofs.InputPins.{pin_by_place}
use Rattle.rb_model.specs.PinsHave.{FeedHas}
use Rattle.rb_model.proofs.HasPins.{FieldHas, field_has, block_signal_has}

-- a pin's number is within its width
abbrev pub PinFits : Values → Pin → Type 0
PinFits p q = p q.name < 2 ^ q.width

pub each_place : {X : Type 0} (P : X → Type 0) (xs : List X) → ((k : ℕ) (x : X) → slice_get xs k ≡ Some x → P x) → Each P xs
each_place P [] h = tt
each_place P (x ∷ xs) h = (h 0 x refl, each_place P xs (λ k y e. h (suc k) y e))

pub fits_at : (ps : List Pin) (xs : List ℕ) (k : ℕ) (p : Pin) → FitsPins ps xs → slice_get ps k ≡ Some p → get_or xs k 0 < 2 ^ p.width
fits_at [] [] k p h e = cc
fits_at [] (x ∷ xs) k p h e = absurd h
fits_at (q ∷ ps) [] k p h e = absurd h
fits_at (q ∷ ps) (x ∷ xs) zero p h e = let s : q.width ≡ p.width = ap (λ r. r.width) (same_Some q p e) in rw (sym s) h.0
fits_at (q ∷ ps) (x ∷ xs) (suc k) p h e = fits_at ps xs k p h.1 e

pub pins_fit : (b : Block) → IsSound b → (x : List ℕ) → FitsPins (input_pins b) x → Each (PinFits (pins_of b x)) (input_pins b)
pins_fit b sound x h = each_place (PinFits (pins_of b x)) (input_pins b)
    (λ k p e. let q : pins_of b x p.name ≡ get_or x k 0 = pin_by_place b sound k p x e in rw q (fits_at (input_pins b) x k p h e))

bit_below : (c : Bool) → bit_of c < 2 ^ 1
bit_below true = omega arith
bit_below false = omega arith

-- kept values of fields are among those of the block
pub kept_among : (b : Block) (k : ℕ) (f : Field) → slice_get b.fields k ≡ Some f → (q : Kept) → Contains (kept_of (k, f)) q → Contains (kept b) q
kept_among b k f e q c = Contains-append_left (flat_map kept_of (enumerate_from 0 b.fields)) (if has_wait b then Waited ∷ Data ∷ Error ∷ [] else []) q
    (Each-from_zero (λ e. (q : Kept) → Contains (kept_of e) q → Contains (flat_map kept_of (enumerate_from 0 b.fields)) q) b.fields k f (Each-parts kept_of (enumerate_from 0 b.fields)) e q c)

pub when_has : {X : Type 0} (c : Bool) (x : X) → c ≡ true → Contains (when c x) x
when_has true x h = (0, omega arith, refl)
when_has false x h = cc

pub field_width : (b : Block) (k : ℕ) (f : Field) → slice_get b.fields k ≡ Some f → of_field b k 0 (λ g. g.width) ≡ f.width
field_width b k f e = ap (λ o. option_map_or (λ g. g.width) o 0) e

pub val_fits : (b : Block) (m : Map) → Fits b m → (k : ℕ) (f : Field) → slice_get b.fields k ≡ Some f → is_storage f.class ≡ true → m (Val k) < 2 ^ f.width
val_fits b m fits k f e s =
    let c : Contains (kept_of (k, f)) (Val k) = Contains-append_left (when (is_storage f.class) (Val k) ++ when (keeps_last f.latch) (Last k)) (when f.once (Done k)) (Val k)
    (Contains-append_left (when (is_storage f.class) (Val k)) (when (keeps_last f.latch) (Last k)) (Val k) (when_has (is_storage f.class) (Val k) s)) in
    let h : m (Val k) < 2 ^ register_width b (Val k) = All-contains (λ q. m q < 2 ^ register_width b q) (kept b) (Val k) fits (kept_among b k f e (Val k) c) in
    subst (λ w. m (Val k) < 2 ^ w) (field_width b k f e) h

pub last_fits : (b : Block) (m : Map) → Fits b m → (k : ℕ) (f : Field) → slice_get b.fields k ≡ Some f → keeps_last f.latch ≡ true → m (Last k) < 2 ^ f.width
last_fits b m fits k f e s =
    let c : Contains (kept_of (k, f)) (Last k) = Contains-append_left (when (is_storage f.class) (Val k) ++ when (keeps_last f.latch) (Last k)) (when f.once (Done k)) (Last k)
    (Contains-append_right (when (is_storage f.class) (Val k)) (when (keeps_last f.latch) (Last k)) (Last k) (when_has (keeps_last f.latch) (Last k) s)) in
    let h : m (Last k) < 2 ^ register_width b (Last k) = All-contains (λ q. m q < 2 ^ register_width b q) (kept b) (Last k) fits (kept_among b k f e (Last k) c) in
    subst (λ w. m (Last k) < 2 ^ w) (field_width b k f e) h

module _ (b : Block) (sound : IsSound b) (n : Now) (fits : Fits b n.kept) (pins : Each (PinFits n.pins) (input_pins b)) (v : ItemValues) where
  -- an item's value is within its width
  abbrev pub ItemFits : RefItem → Type 0
  ItemFits i = v i < 2 ^ item_width b i

  -- what a field is fed, where the item is as wide
  pub fed_fits : (x : Feed) (name : List ℕ) (w : ℕ) → FeedHas (PinFits n.pins) x name w → AreWide b w (feed_refs x) → Each ItemFits (feed_refs x) → fed n v x name < 2 ^ w
  fed_fits feed.Off name w h a i = pow_pos w
  fed_fits feed.Pin name w h a i = h
  fed_fits (feed.Item j) name w h a i = subst (λ u. v j < 2 ^ u) a.0.1 i.0

  class_fits : (k : ℕ) (f : Field) → slice_get b.fields k ≡ Some f → (c : Class) → f.class ≡ c → Each ItemFits (class_refs c f.source) → class_value n v c k f < 2 ^ f.width
  class_fits k f e Storage q i = val_fits b n.kept fits k f e (ap is_storage q)
  class_fits k f e Wire q i =
      let s : FieldIsSoundIn b (k, f) = Each-from_zero (FieldIsSoundIn b) b.fields k f sound.fields e in
      let h : FieldHas (PinFits n.pins) f = field_has (PinFits n.pins) b sound pins k f e in
      fed_fits f.source (codes "in$" ++ f.path) f.width h.source s.refers.source i
  class_fits k f e Constant q i = let s : FieldIsSoundIn b (k, f) = Each-from_zero (FieldIsSoundIn b) b.fields k f sound.fields e in or_zero f.reset s.alone.reset
    where
      or_zero : (o : Option ℕ) → WithSome o (λ r. r < 2 ^ f.width) → unwrap_or o 0 < 2 ^ f.width
      or_zero None g = pow_pos f.width
      or_zero (Some r) g = g

  field_made : (k : ℕ) → Each ItemFits (refs b (item.Field k)) → made b n v (item.Field k) < 2 ^ item_width b (item.Field k)
  field_made k i = at (slice_get b.fields k) refl i
    where
      at : (o : Option Field) → slice_get b.fields k ≡ o → Each ItemFits (option_map_or (λ f. class_refs f.class f.source) o [])
          → option_map_or (λ f. class_value n v f.class k f) o 0 < 2 ^ option_map_or (λ f. f.width) o 0
      at None e h = omega arith
      at (Some f) e h = class_fits k f e f.class refl h

  signal_made : (s : ℕ) → made b n v (item.Signal s) < 2 ^ item_width b (item.Signal s)
  signal_made s = at (slice_get b.signals s) refl
    where
      at : (o : Option Signal) → slice_get b.signals s ≡ o → option_map_or (λ g. n.pins (signal_name g)) o 0 < 2 ^ option_map_or (λ g. g.width) o 0
      at None e = omega arith
      at (Some g) e = block_signal_has (PinFits n.pins) b sound pins s g e

  -- a bit of a field's, or of its counter's, or 0
  field_bit : (k : ℕ) (g : Field → ℕ) → ((f : Field) → g f < 2 ^ 1) → of_field b k 0 g < 2 ^ 1
  field_bit k g h = at (slice_get b.fields k)
    where
      at : (o : Option Field) → option_map_or g o 0 < 2 ^ 1
      at None = omega arith
      at (Some f) = h f

  count_bit : (o : Option Count) (g : Count → Bool) → option_map_or (λ c. bit_of (g c)) o 0 < 2 ^ 1
  count_bit None g = omega arith
  count_bit (Some c) g = bit_below (g c)

  pub made_fits : (i : RefItem) → Each ItemFits (refs b i) → made b n v i < 2 ^ item_width b i
  made_fits (item.Field k) h = field_made k h
  made_fits (item.Signal s) h = signal_made s
  made_fits (item.Anded k) h = field_bit k (λ f. bit_of (v (item.Field k) == ones f.width)) (λ f. bit_below (v (item.Field k) == ones f.width))
  made_fits (item.Ored k) h = bit_below (nat_lt 0 (v (item.Field k)))
  made_fits (item.Xored k) h = let p : 0 < 2 = omega arith in let l : count_ones (v (item.Field k)) % 2 < 2 = mod-lt (count_ones (v (item.Field k))) p in omega arith
  made_fits (item.IncrThreshold k) h = field_bit k (λ f. option_map_or (λ c. bit_of (nat_le (level_value v c.above) (v (item.Field k)))) f.count 0) (λ f. count_bit f.count (λ c. nat_le (level_value v c.above) (v (item.Field k))))
  made_fits (item.DecrThreshold k) h = field_bit k (λ f. option_map_or (λ c. bit_of (nat_le (v (item.Field k)) (level_value v c.below))) f.count 0) (λ f. count_bit f.count (λ c. nat_le (v (item.Field k)) (level_value v c.below)))
  made_fits (item.Overflow k) h = field_bit k (λ f. overflows f.width (n.kept (Val k)) (up n v f) (down n v f)) (λ f. bit_below (nat_le (2 ^ f.width + down n v f) (n.kept (Val k) + up n v f)))
  made_fits (item.Underflow k) h = field_bit k (λ f. underflows (n.kept (Val k)) (up n v f) (down n v f)) (λ f. bit_below (nat_lt (n.kept (Val k) + up n v f) (down n v f)))
  made_fits (item.SwMod k) h = bit_below _
  made_fits (item.SwAcc k) h = bit_below _
  made_fits (item.Intr r) h = bit_below _
  made_fits (item.Halt r) h = bit_below _

  module _ (right : AreItemValues b n v) where
    ordered_fits : (is : List RefItem) → IsOrdered b is → ((i : RefItem) → Contains is i → v i ≡ made b n v i) → (most k : ℕ) (i : RefItem) → k < most → slice_get is k ≡ Some i → Contains is i → ItemFits i
    ordered_fits is ordered each zero k i below here c = absurd (omega arith)
    ordered_fits is ordered each (suc most) k i below here c =
        let m : made b n v i < 2 ^ item_width b i = made_fits i (Each-weaker (StandsBefore is k) ItemFits
        (λ j at. ordered_fits is ordered each most at.0 j (let lt : at.0 < k = at.1 in omega arith) at.2 (at.0, slice_get_within is at.0 j at.2, get_or_from_slice_get is at.0 j j at.2)) (refs b i) (ordered k i here)) in
        rw (each i c) m

    pub values_fit : (i : RefItem) → Contains (items b) i → ItemFits i
    values_fit i c =
        let held : Contains b.order i = Contains-permutation (items b) b.order i sound.all_items c in
        let back : (j : RefItem) → Contains b.order j → v j ≡ made b n v j = λ j d. right j (Contains-permutation b.order (items b) j (IsPermutation-sym (items b) b.order sound.all_items) d) in
        ordered_fits b.order sound.ordered back (held.0 + 1) held.0 i (let lt : held.0 < length b.order = held.1 in omega arith) (slice_get_read b.order (length b.order) held.0 i refl held.1 (sym held.2)) held
