-- What the nodes of counters are worth.
use Rattle.std.proofs.Common.{◌≡◌, ℕ, ◌==◌, ◌<◌, ◌≤◌, ◌^◌, true, false, if◌then◌else◌, Option, Some, None, List, [], ◌∷◌, ◌++◌, codes, length, slice_get, refl, sym, ap, ◌∙◌, subst, arith}
use Rattle.std.specs.Option.{option_map, option_map_or}
use Rattle.std.specs.Prelude.{option_and_then}
use Rattle.std.proofs.lemmas.Option.{same_Some, slice_get_within}
use Rattle.rtl_net.specs.Value.{bit_of}
use Rattle.rtl_net.specs.Net.{Net, Grows, IsNode, MayHave, Stands, seen_or_zero}
use Rattle.rtl_net.specs.Ids.{at}
use Rattle.rtl_net.specs.declared.node.Id.{Id}
use Rattle.rtl_net.proofs.Nets.{fits_at}
use Rattle.rb_model.specs.declared.kinds.RefItem.{RefItem}
use Rattle.rb_model.specs.declared.kinds.Amount.{Amount}
use Rattle.rb_model.specs.declared.kinds.Amount.TheVariants as amount
use Rattle.rb_model.specs.declared.kinds.Level.{Level}
use Rattle.rb_model.specs.declared.kinds.Level.TheVariants as level
use Rattle.rb_model.specs.declared.kinds.Part.{Part}
use Rattle.rb_model.specs.declared.kinds.Count.{Count}
use Rattle.rb_model.specs.declared.block.Block.{Block}
use Rattle.rb_model.specs.declared.block.Field.{Field}
use Rattle.rb_model.specs.Ports.{pin}
use Rattle.rb_model.specs.PinsHave.{AmountHas}
use Rattle.rb_model.specs.Items.{Now, ItemValues, amount_value, down, fed, level_value, step, up}
use Rattle.rb_model.specs.Machine.{is_asserted, reset_pin}
use Rattle.rb_model.specs.References.{AreWide, AreWithin, WithSome, amount_refs, count_refs, feed_refs, item_width, level_refs, part_refs}
use Rattle.rb_model.specs.SoundField.{AmountFits, CountFits, FieldIsSoundIn, LevelFits, PartFits}
use Rattle.rb_model.proofs.Eachs.{Each-left, Each-right}
use Rattle.block_plan.specs.declared.plan.FieldPlaces.{FieldPlaces}
use Rattle.block_plan.specs.declared.plan.PartPlaces.{PartPlaces}
use Rattle.block_plan.specs.Pins.{IsDataPin}
use Rattle.block_plan.specs.Plan.{AreFieldPlaces, ArePartPlaces, IsPlaceOf}
use Rattle.block_plan.specs.Table.{item_place}
use Rattle.block_plan.proofs.DataPins.{field_data}
use Rattle.block_plan.proofs.PinUses.{CountHas, PartHas}
use Rattle.gen_scene.specs.declared.base.Base.{Base}
use Rattle.gen_scene.specs.declared.base.Inlet.{Inlet}
use Rattle.gen_scene.specs.declared.scene.Scene.{Scene}
use Rattle.gen_scene.specs.Bases.{IsBase, signal_place}
use Rattle.block_plan.specs.Needs.{limit_refs, limits_refs}
use Rattle.gen_scene.specs.Fields.{CanAmount, CanLevel, CanStep, HasNodes, fed_node, high_value, low_value}
use Rattle.gen_scene.specs.Items.{IsItem}
use Rattle.gen_scene.specs.Worth.{IsRead, IsSeenAs, IsWorth, MayBeWorth}
use Rattle.gen_scene.proofs.Worths.{MayBeWorth-grows, read_node, worth1, worth2, worth_as, worth_read}
use Rattle.block_plan.proofs.Wanting.{field_sound}
use Rattle.gen_scene.proofs.Sources.{fed_worth, pin_is, pin_node}
use Rattle.gen_scene.proofs.ResetPins.{pin_worth}

-- an item's node, and what is made of it
pub item_stands : (net : Net) (s : Scene) (i : RefItem) (from : Id) → HasNodes net s (i ∷ []) → from ≡ at s.items.now (item_place i) → Stands net from (item_width s.base.now.block.now i)
item_stands net s i from h e = let it : IsItem s.base.now.block.now s.base.now.inlet net s.items.now i = h.0 in subst (λ x. Stands net x (item_width s.base.now.block.now i)) (sym e) it.worth.stands

pub wide_worth : (net new : Net) (s : Scene) (i : RefItem) (w : ℕ) (from id : Id) → HasNodes net s (i ∷ []) → from ≡ at s.items.now (item_place i) → Grows net new → IsNode new id w (λ x. x.node from.0) → IsWorth s.base.now.block.now s.base.now.inlet new id w (λ n v. v i)
wide_worth net new s i w from id h e grown node =
    let b = s.base.now.block.now in
    let a = s.base.now.inlet in
    let it : IsItem b a net s.items.now i = h.0 in
    worth_read b a net new id w (λ x. x.node from.0) (λ n v. v i) grown node (subst (λ y. IsRead b a net (λ x. x.node y.0) (λ n v. v i)) (sym e) (read_node b a net (at s.items.now (item_place i)) _ (λ n v. v i) it.worth))

-- a pin's node, and what is made of it
module _ (net : Net) (s : Scene) (name : List ℕ) (u place : ℕ) (base : IsBase net s.base.now) (given : IsDataPin s.base.now.block.now (pin name u)) (is : IsPlaceOf s.base.now.block.now name place) where
  pub pin_low : place < length s.base.now.pins.now
  pin_low = slice_get_within s.base.now.pins.now place _ (pin_node s.base.now.block.now net s.base.now.pins.now (pin name u) place base.pins given is).0

  at_pin : IsWorth s.base.now.block.now s.base.now.inlet net (at s.base.now.pins.now place) u (λ n v. n.pins name)
  at_pin = pin_is s.base.now.block.now s.base.now.inlet net (at s.base.now.pins.now place) (pin name u) given (pin_node s.base.now.block.now net s.base.now.pins.now (pin name u) place base.pins given is).1

  pub pin_stands : (from : Id) → from ≡ at s.base.now.pins.now place → Stands net from u
  pin_stands from e = subst (λ x. Stands net x u) (sym e) at_pin.stands

  pub pin_wide : (new : Net) (w : ℕ) (from id : Id) → from ≡ at s.base.now.pins.now place → Grows net new → IsNode new id w (λ x. x.node from.0) → IsWorth s.base.now.block.now s.base.now.inlet new id w (λ n v. n.pins name)
  pin_wide new w from id e grown node =
      let b = s.base.now.block.now in
      let a = s.base.now.inlet in
      worth_read b a net new id w (λ x. x.node from.0) (λ n v. n.pins name) grown node (subst (λ y. IsRead b a net (λ x. x.node y.0) (λ n v. n.pins name)) (sym e) (read_node b a net (at s.base.now.pins.now place) u (λ n v. n.pins name) at_pin))

-- the amount where there is a pulse
pub step_worth : (net mid new : Net) (s : Scene) (p : Part) (pulse value : List ℕ) (w : ℕ) (places : PartPlaces) (o : Option Id) (by id : Id) → CanStep net s (Some p) pulse value w places → Grows net mid
    → IsWorth s.base.now.block.now s.base.now.inlet mid by w (λ n v. amount_value n v p.amount value) → o ≡ fed_node s p.pulse places.pulse → Grows mid new → IsNode new id w (λ x. if seen_or_zero x o == 0 then 0 else x.node by.0)
    → IsWorth s.base.now.block.now s.base.now.inlet new id w (λ n v. step n v (Some p) pulse value)
step_worth net mid new s p pulse value w places o by id can grown h e more node =
    let b = s.base.now.block.now in
    let a = s.base.now.inlet in
    let q : MayBeWorth b a mid o 1 (λ n v. fed n v p.pulse pulse) = subst (λ x. MayBeWorth b a mid x 1 (λ n v. fed n v p.pulse pulse)) (sym e) (MayBeWorth-grows b a net mid _ 1 _ grown (fed_worth net s p.pulse pulse 1 places.pulse can.0)) in
    worth2 b a mid new id w (λ x y. if x == 0 then 0 else y) (λ x. seen_or_zero x o) (λ x. x.node by.0) (λ n v. fed n v p.pulse pulse) (λ n v. amount_value n v p.amount value) more node q.read (read_node b a mid by w _ h)

pub pulse_stands : (net mid : Net) (s : Scene) (p : Part) (pulse value : List ℕ) (w : ℕ) (places : PartPlaces) (o : Option Id) → CanStep net s (Some p) pulse value w places → Grows net mid → o ≡ fed_node s p.pulse places.pulse → MayHave mid o 1
pulse_stands net mid s p pulse value w places o can grown e =
    let b = s.base.now.block.now in
    let a = s.base.now.inlet in
    subst (λ x. MayHave mid x 1) (sym e) (MayBeWorth-grows b a net mid _ 1 _ grown (fed_worth net s p.pulse pulse 1 places.pulse can.0)).may

-- a level that there is
pub seen_some : (b : Block) (a : Inlet) (net : Net) (id : Id) (w : ℕ) (l : Level) → IsWorth b a net id w (λ n v. level_value v l) → IsSeenAs b a net (Some id) w (λ n v. option_map (level_value v) (Some l))
seen_some b a net id w l h = record { may = h.stands; read = record { value = λ v s n f items c. ap (λ x. Some x) (h.value v s n f items c) } }

pub seen_none : (b : Block) (a : Inlet) (net : Net) (w : ℕ) (g : Now → ItemValues → Option ℕ) → ((n : Now) (v : ItemValues) → None ≡ g n v) → IsSeenAs b a net None w g
seen_none b a net w g e = record { may = tt; read = record { value = λ v s n f items c. e n items } }

pub seen_as : (b : Block) (a : Inlet) (net : Net) (o : Option Id) (w : ℕ) (g h : Now → ItemValues → Option ℕ) → ((n : Now) (v : ItemValues) → g n v ≡ h n v) → IsSeenAs b a net o w g → IsSeenAs b a net o w h
seen_as b a net o w g h e k = record { may = k.may; read = record { value = λ v s n f items c. k.read.value v s n f items c ∙ e n items } }

-- What fields refer to can be looked up

feed_can : (net : Net) (s : Scene) (p : Part) (pulse value : List ℕ) (w : ℕ) (places : PartPlaces) → IsBase net s.base.now → HasNodes net s (part_refs (Some p)) → PartFits w p → AreWide s.base.now.block.now 1 (feed_refs p.pulse)
    → AreWithin s.base.now.block.now w (amount_refs p.amount) → PartHas (IsDataPin s.base.now.block.now) (Some p) pulse value → ArePartPlaces s.base.now.block.now pulse value places → CanStep net s (Some p) pulse value w places
feed_can net s p pulse value w places base refs fits wide within has at = (
  record { base = base; refs = Each-left _ (feed_refs p.pulse) (amount_refs p.amount) refs; wide = wide; pin = has.0; at = at.pulse },
  by p.amount (Each-right _ (feed_refs p.pulse) (amount_refs p.amount) refs) fits.1 within has.1,
)
  where
    by : (m : Amount) → HasNodes net s (amount_refs m) → AmountFits w m → AreWithin s.base.now.block.now w (amount_refs m) → AmountHas (IsDataPin s.base.now.block.now) m value → CanAmount net s m value w places.amount
    by (amount.Number x) r f i h = f
    by (amount.Item i) r f k h = (r, k.0.1)
    by (amount.Pin n) r f i h = (h, at.amount, f.1)

part_can : (net : Net) (s : Scene) (o : Option Part) (pulse value : List ℕ) (w : ℕ) (places : PartPlaces) → IsBase net s.base.now → HasNodes net s (part_refs o) → WithSome o (PartFits w) → WithSome o (λ p. AreWide s.base.now.block.now 1 (feed_refs p.pulse))
    → WithSome o (λ p. AreWithin s.base.now.block.now w (amount_refs p.amount)) → PartHas (IsDataPin s.base.now.block.now) o pulse value → ArePartPlaces s.base.now.block.now pulse value places → CanStep net s o pulse value w places
part_can net s None pulse value w places base refs fits wide within has at = tt
part_can net s (Some p) pulse value w places base refs fits wide within has at = feed_can net s p pulse value w places base refs fits wide within has at

level_can : (net : Net) (s : Scene) (w : ℕ) (l : Level) → HasNodes net s (level_refs l) → LevelFits w l → AreWithin s.base.now.block.now w (level_refs l) → CanLevel net s w l
level_can net s w (level.Number x) refs fits within = fits
level_can net s w (level.Item i) refs fits within = (refs, within.0.1)

limit_can : (net : Net) (s : Scene) (w : ℕ) (o : Option Level) → HasNodes net s (limit_refs o) → WithSome o (LevelFits w) → WithSome o (λ l. AreWithin s.base.now.block.now w (level_refs l)) → WithSome o (CanLevel net s w)
limit_can net s w None refs fits within = tt
limit_can net s w (Some l) refs fits within = level_can net s w l refs fits within

some_of : {X : Type 0} (P : X → Type 0) (o : Option X) (x : X) → o ≡ Some x → WithSome o P → P x
some_of P None x e h = cc
some_of P (Some y) x e h = subst P (same_Some y x e) h

-- a field that counts
module _ (net : Net) (s : Scene) (k : ℕ) (f : Field) (base : IsBase net s.base.now) (here : slice_get s.base.now.block.now.fields k ≡ Some f) (c : Count) (counts : f.count ≡ Some c) where
  abbrev b : Block
  b = s.base.now.block.now

  sound : FieldIsSoundIn b (k, f)
  sound = field_sound b base.sound k f here

  fits : CountFits f.width c
  fits = some_of (CountFits f.width) f.count c counts sound.alone.count

  places_of : (p : FieldPlaces) → Some p ≡ slice_get s.base.now.plan.now.fields.items k → AreFieldPlaces b f p
  places_of p e = let (q, there, are) = base.planned.fields k f here in subst (AreFieldPlaces b f) (same_Some q p (sym there ∙ sym e)) are

  count_pins : CountHas (IsDataPin b) (Some c) f.path
  count_pins = subst (λ o. CountHas (IsDataPin b) o f.path) counts (field_data b base.sound k f here).count

  pub can_up : HasNodes net s (count_refs f.count) → (p : FieldPlaces) → Some p ≡ slice_get s.base.now.plan.now.fields.items k → CanStep net s c.up (codes "incr$" ++ f.path) (codes "incrvalue$" ++ f.path) f.width p.up
  can_up refs p e =
      let r : HasNodes net s (part_refs c.up ++ part_refs c.down) = subst (λ o. HasNodes net s (count_refs o)) counts refs in
      part_can net s c.up (codes "incr$" ++ f.path) (codes "incrvalue$" ++ f.path) f.width p.up base (Each-left _ (part_refs c.up) (part_refs c.down) r) fits.up (some_of _ f.count c counts sound.refers.pulses).0 (some_of _ f.count c counts sound.refers.amounts).0 count_pins.0 (places_of p e).up

  pub can_down : HasNodes net s (count_refs f.count) → (p : FieldPlaces) → Some p ≡ slice_get s.base.now.plan.now.fields.items k → CanStep net s c.down (codes "decr$" ++ f.path) (codes "decrvalue$" ++ f.path) f.width p.down
  can_down refs p e =
      let r : HasNodes net s (part_refs c.up ++ part_refs c.down) = subst (λ o. HasNodes net s (count_refs o)) counts refs in
      part_can net s c.down (codes "decr$" ++ f.path) (codes "decrvalue$" ++ f.path) f.width p.down base (Each-right _ (part_refs c.up) (part_refs c.down) r) fits.down (some_of _ f.count c counts sound.refers.pulses).1 (some_of _ f.count c counts sound.refers.amounts).1 count_pins.1 (places_of p e).down

  limits_within : WithSome c.high (λ l. AreWithin b f.width (level_refs l)) × WithSome c.low (λ l. AreWithin b f.width (level_refs l)) × AreWithin b f.width (level_refs c.above ++ level_refs c.below)
  limits_within = some_of _ f.count c counts sound.refers.levels

  pub can_high : HasNodes net s (limits_refs f.count) → WithSome c.high (CanLevel net s f.width)
  can_high refs =
      let r : HasNodes net s (limit_refs c.high ++ limit_refs c.low) = subst (λ o. HasNodes net s (limits_refs o)) counts refs in
      limit_can net s f.width c.high (Each-left _ (limit_refs c.high) (limit_refs c.low) r) fits.high limits_within.0

  pub can_low : HasNodes net s (limits_refs f.count) → WithSome c.low (CanLevel net s f.width)
  can_low refs =
      let r : HasNodes net s (limit_refs c.high ++ limit_refs c.low) = subst (λ o. HasNodes net s (limits_refs o)) counts refs in
      limit_can net s f.width c.low (Each-right _ (limit_refs c.high) (limit_refs c.low) r) fits.low limits_within.1

  pub can_above : HasNodes net s (level_refs c.above) → CanLevel net s f.width c.above
  can_above refs = level_can net s f.width c.above refs fits.above (Each-left _ (level_refs c.above) (level_refs c.below) limits_within.2)

  pub can_below : HasNodes net s (level_refs c.below) → CanLevel net s f.width c.below
  can_below refs = level_can net s f.width c.below refs fits.below (Each-right _ (level_refs c.above) (level_refs c.below) limits_within.2)

  pub up_is : (n : Now) (v : ItemValues) → step n v c.up (codes "incr$" ++ f.path) (codes "incrvalue$" ++ f.path) ≡ up n v f
  up_is n v = sym (ap (λ o. option_map_or (λ c. step n v c.up (codes "incr$" ++ f.path) (codes "incrvalue$" ++ f.path)) o 0) counts)

  pub down_is : (n : Now) (v : ItemValues) → step n v c.down (codes "decr$" ++ f.path) (codes "decrvalue$" ++ f.path) ≡ down n v f
  down_is n v = sym (ap (λ o. option_map_or (λ c. step n v c.down (codes "decr$" ++ f.path) (codes "decrvalue$" ++ f.path)) o 0) counts)

  pub high_is : (v : ItemValues) → option_map (level_value v) c.high ≡ high_value v f
  high_is v = sym (ap (λ o. option_and_then (λ c. option_map (level_value v) c.high) o) counts)

  pub low_is : (v : ItemValues) → option_map (level_value v) c.low ≡ low_value v f
  low_is v = sym (ap (λ o. option_and_then (λ c. option_map (level_value v) c.low) o) counts)

pub width_fits : (b : Block) (net : Net) (s : Base) (k : ℕ) (f : Field) → IsBase net s → slice_get s.block.now.fields k ≡ Some f → (0 < f.width) × (f.width ≤ 64)
width_fits b net s k f base here = (field_sound s.block.now base.sound k f here).alone.wide

-- Resets

one_bit : (x : ℕ) → x < 2 ^ 1 → x ≡ bit_of (x == 1)
one_bit x low = grind arith

module _ (net : Net) (s : Base) (base : IsBase net s) (k : ℕ) (f : Field) (here : slice_get s.block.now.fields k ≡ Some f) (id : Id) (is : id ≡ at s.pins.now (signal_place s.plan.now f.reset_by.signal)) where
  reset_worth : IsWorth s.block.now s.inlet net id 1 (λ n v. reset_pin s.block.now n.pins f.reset_by)
  reset_worth = subst (λ x. IsWorth s.block.now s.inlet net x 1 (λ n v. reset_pin s.block.now n.pins f.reset_by)) (sym is) (pin_worth s.block.now base.sound s.plan.now base.planned net s.pins.now base.pins k f here s.inlet)

  pub reset_stands : Stands net id 1
  reset_stands = reset_worth.stands

  pub asserted_low : f.reset_by.low ≡ true → (new : Net) (out : Id) → Grows net new → IsNode new out 1 (λ x. bit_of (x.node id.0 == 0)) → IsWorth s.block.now s.inlet new out 1 (λ n v. bit_of (is_asserted s.block.now n.pins f.reset_by))
  asserted_low low new out grown node =
      worth_as s.block.now s.inlet new out 1 1 _ _ (worth1 s.block.now s.inlet net new out 1 (λ x. bit_of (x == 0)) (λ x. x.node id.0) (λ n v. reset_pin s.block.now n.pins f.reset_by) grown node (read_node s.block.now s.inlet net id 1 _ reset_worth)) refl
      (λ n v c. ap (λ l. bit_of (reset_pin s.block.now n.pins f.reset_by == (if l then 0 else 1))) (sym low))

  pub asserted_high : f.reset_by.low ≡ false → IsWorth s.block.now s.inlet net id 1 (λ n v. bit_of (is_asserted s.block.now n.pins f.reset_by))
  asserted_high high = record {
    stands = reset_stands;
    value = λ v q n found items c.
        one_bit (v.node id.0) (fits_at net v id 1 q reset_stands) ∙ ap (λ x. bit_of (x == 1)) (reset_worth.value v q n found items c)
        ∙ ap (λ l. bit_of (reset_pin s.block.now n.pins f.reset_by == (if l then 0 else 1))) (sym high);
  }
