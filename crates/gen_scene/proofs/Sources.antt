-- The nodes that are looked up, and what they are worth.
use Rattle.std.proofs.Common.{◌≡◌, ℕ, ◌<◌, Bool, true, false, if◌then◌else◌, Option, Some, None, List, [], ◌∷◌, ◌++◌, codes, length, slice_get, refl, sym, ap, ◌∙◌, subst, arith}
use Rattle.std.specs.Prelude.{Contains}
use Rattle.std.specs.Option.{option_map_or}
use Rattle.std.proofs.lemmas.Option.{same_Some, slice_get-get_or, slice_get_within, get_or_from_slice_get}
use Rattle.rb_base.specs.declared.ports.Pin.{Pin}
use Rattle.rtl_net.specs.Net.{Net}
use Rattle.rtl_net.specs.Ids.{at}
use Rattle.rtl_net.specs.declared.node.Id.{Id}
use Rattle.rb_model.specs.declared.kinds.RefItem.{RefItem}
use Rattle.rb_model.specs.declared.kinds.Feed.{Feed}
use Rattle.rb_model.specs.declared.kinds.Feed.TheVariants as feed
use Rattle.rb_model.specs.declared.kinds.Gate.{Gate}
use Rattle.rb_model.specs.declared.kinds.Gate.TheVariants as gate
use Rattle.rb_model.specs.declared.kinds.Mask.{Mask}
use Rattle.rb_model.specs.declared.kinds.Mask.TheVariants as mask
use Rattle.rb_model.specs.declared.block.Block.{Block}
use Rattle.rb_model.specs.declared.block.Field.{Field}
use Rattle.rb_model.specs.declared.block.View.{View}
use Rattle.rb_model.specs.declared.block.Signal.{Signal}
use Rattle.rb_model.specs.Kept.{Kept, of_field, register_width, field_kept}
use Rattle.rb_model.specs.Ports.{input_pins, pin, signal_name}
use Rattle.rb_model.specs.PinsHave.{GateHas}
use Rattle.rb_model.specs.Items.{fed, gated, mask_value, source_value}
use Rattle.rb_model.specs.Machine.{view_gate}
use Rattle.rb_model.specs.References.{AreWide, Each, feed_refs, gate_refs, mask_refs, count_refs, item_width}
use Rattle.rb_model.specs.SoundField.{FieldIsSoundIn}
use Rattle.rb_model.specs.Sound.{IsSound, ViewIsSound}
use Rattle.rb_model.proofs.Eachs.{Each-from_zero, Each-left, Each-right}
use Rattle.block_plan.specs.declared.kept.FieldKept.{FieldKept}
use Rattle.block_plan.specs.declared.plan.FieldPlaces.{FieldPlaces}
use Rattle.block_plan.specs.Kept.{AreFieldKept}
use Rattle.block_plan.specs.Pins.{IsDataPin}
use Rattle.block_plan.specs.Plan.{AreFieldPlaces, IsGatePlace, IsPlaceOf}
use Rattle.block_plan.specs.Table.{item_place}
use Rattle.block_plan.proofs.DataPins.{field_data, signal_data, view_data}
use Rattle.gen_scene.specs.declared.base.Base.{Base}
use Rattle.gen_scene.specs.declared.base.Inlet.{Inlet}
use Rattle.gen_scene.specs.declared.scene.Scene.{Scene}
use Rattle.gen_scene.specs.Bases.{HasKept, HasPins, IsBase, IsPinNode}
use Rattle.block_plan.specs.Needs.{hardware_refs, limits_refs}
use Rattle.gen_scene.specs.Fields.{CanFeed, HasField, HasNodes, HasView, fed_node, gated_node, item_node, mask_node}
use Rattle.block_plan.proofs.Wanting.{field_sound}
use Rattle.gen_scene.specs.Items.{IsItem}
use Rattle.gen_scene.specs.Worth.{IsWorth, MayBeWorth}
use Rattle.gen_scene.proofs.Worths.{may_none, may_some, worth_as}

-- an element of a table that reaches so far
pub in_table : (ids : List Id) (k : ℕ) → k < length ids → slice_get ids k ≡ Some (at ids k)
in_table ids k low = slice_get-get_or ids k (record { 0 = 0 }) low

pub field_width : (b : Block) (k : ℕ) (f : Field) → slice_get b.fields k ≡ Some f → of_field b k 0 (λ g. g.width) ≡ f.width
field_width b k f here = ap (λ o. option_map_or (λ g. g.width) o 0) here

-- Registers

pub kept_worth : (b : Block) (a : Inlet) (net : Net) (kept : List Id) (is_kept : Bool) (k : Kept) (j : ℕ) (o : Option Id) → HasKept b a net kept → is_kept ≡ true → slice_get (field_kept b) j ≡ Some k → o ≡ slice_get kept j
    → MayBeWorth b a net o (register_width b k) (λ n v. if is_kept then n.kept k else 0)
kept_worth b a net kept is_kept k j o h t here e =
    let low : j < length (field_kept b) = slice_get_within (field_kept b) j k here in
    let is : o ≡ Some (at kept j) = e ∙ in_table kept j (omega (arith, low, h.long)) in
    subst (λ x. MayBeWorth b a net x (register_width b k) (λ n v. if is_kept then n.kept k else 0)) (sym is)
    (may_some b a net (at kept j) _ _ (worth_as b a net (at kept j) _ _ _ _ (h.each j k here) refl (λ n u c. ap (λ x. if x then n.kept k else 0) (sym t))))

pub unkept_worth : (b : Block) (a : Inlet) (net : Net) (is_kept : Bool) (k : Kept) (w : ℕ) → is_kept ≡ false → MayBeWorth b a net None w (λ n v. if is_kept then n.kept k else 0)
unkept_worth b a net is_kept k w t = may_none b a net w (λ n v. if is_kept then n.kept k else 0) (λ n v. ap (λ x. if x then n.kept k else 0) (sym t))

-- what field k keeps
module _ (net : Net) (s : Base) (k : ℕ) (f : Field) (base : IsBase net s) (here : slice_get s.block.now.fields k ≡ Some f) where
  pub places_known : (p : FieldKept) → Some p ≡ slice_get s.plan.now.kept.of.items k → AreFieldKept (field_kept s.block.now) k f p
  places_known p e =
      let (q, there, are) = base.planned.kept.places k f here in
      subst (λ ks. AreFieldKept ks k f p) base.planned.kept.all (subst (AreFieldKept _ k f) (same_Some q p (sym there ∙ sym e)) are)

  pub places_there : None ≡ slice_get s.plan.now.kept.of.items k → ⊥
  places_there e = let (q, there, are) = base.planned.kept.places k f here in let n : None ≡ Some q = e ∙ there in cc

-- Items, pins, feeds

pub item_worth : (net : Net) (s : Scene) (i : RefItem) (w : ℕ) → HasNodes net s (i ∷ []) → item_width s.base.now.block.now i ≡ w → MayBeWorth s.base.now.block.now s.base.now.inlet net (item_node s i) w (λ n v. v i)
item_worth net s i w h e =
    let b = s.base.now.block.now in
    let it : IsItem b s.base.now.inlet net s.items.now i = h.0 in
    subst (λ x. MayBeWorth b s.base.now.inlet net x w (λ n v. v i)) (sym (in_table s.items.now (item_place i) it.within))
    (may_some b s.base.now.inlet net _ w _ (worth_as b s.base.now.inlet net _ _ w _ _ it.worth e (λ n u c. refl)))

-- the node of a pin at its place
pub pin_node : (b : Block) (net : Net) (pins : List Id) (p : Pin) (place : ℕ) → HasPins b net pins → IsDataPin b p → IsPlaceOf b p.name place → (slice_get pins place ≡ Some (at pins place)) × IsPinNode net (at pins place) p
pin_node b net pins p place h d q =
    let same : place ≡ d.place = q.every d.place p d.here refl in
    let here : slice_get (input_pins b) place ≡ Some p = ap (slice_get (input_pins b)) same ∙ d.here in
    let low : place < length (input_pins b) = slice_get_within (input_pins b) place p here in
    (in_table pins place (omega (arith, low, h.long)), h.each place p here d.other)

pub pin_is : (b : Block) (a : Inlet) (net : Net) (id : Id) (p : Pin) → IsDataPin b p → IsPinNode net id p → IsWorth b a net id p.width (λ n v. n.pins p.name)
pin_is b a net id p d node = record {
  stands = node.node.stands;
  value = λ v t n found items c.
      let among : Contains (input_pins b) p = (d.place, slice_get_within (input_pins b) d.place p d.here, get_or_from_slice_get (input_pins b) d.place p p d.here) in
      node.node.value v t ∙ sym (found.pins p among d.other);
}

pub fed_worth : (net : Net) (s : Scene) (from : Feed) (name : List ℕ) (w place : ℕ) → CanFeed net s from name w place → MayBeWorth s.base.now.block.now s.base.now.inlet net (fed_node s from place) w (λ n v. fed n v from name)
fed_worth net s feed.Off name w place h = may_none s.base.now.block.now s.base.now.inlet net w (λ n v. 0) (λ n v. refl)
fed_worth net s feed.Pin name w place h =
    let b = s.base.now.block.now in
    let q = pin_node b net s.base.now.pins.now (pin name w) place h.base.pins h.pin h.at in
    subst (λ x. MayBeWorth b s.base.now.inlet net x w (λ n v. n.pins name)) (sym q.0) (may_some b s.base.now.inlet net _ w _ (pin_is b s.base.now.inlet net _ (pin name w) h.pin q.1))
fed_worth net s (feed.Item i) name w place h = item_worth net s i w h.refs h.wide.0.1

-- Fields

-- the references of a field's steps of hardware
pub record HardwareHas (P : RefItem → Type 0) (f : Field) : Type 0 where
  pub source : Each P (feed_refs f.source)
  pub gate : Each P (gate_refs f.gate)
  pub count : Each P (count_refs f.count)
  pub limits : Each P (limits_refs f.count)
  pub set : Each P (feed_refs f.set)
  pub clear : Each P (feed_refs f.clear)
  pub keep : Each P (mask_refs f.keep)

pub hardware_has : (P : RefItem → Type 0) (f : Field) → Each P (hardware_refs f) → HardwareHas P f
hardware_has P f h =
    let r1 = feed_refs f.source in
    let r2 = r1 ++ gate_refs f.gate in
    let r3 = r2 ++ count_refs f.count in
    let r4 = r3 ++ limits_refs f.count in
    let r5 = r4 ++ feed_refs f.set in
    let r6 = r5 ++ feed_refs f.clear in
    let h6 : Each P r6 = Each-left P r6 (mask_refs f.keep) h in
    let h5 : Each P r5 = Each-left P r5 (feed_refs f.clear) h6 in
    let h4 : Each P r4 = Each-left P r4 (feed_refs f.set) h5 in
    let h3 : Each P r3 = Each-left P r3 (limits_refs f.count) h4 in
    let h2 : Each P r2 = Each-left P r2 (count_refs f.count) h3 in
    record {
      source = Each-left P r1 (gate_refs f.gate) h2;
      gate = Each-right P r1 (gate_refs f.gate) h2;
      count = Each-right P r2 (count_refs f.count) h3;
      limits = Each-right P r3 (limits_refs f.count) h4;
      set = Each-right P r4 (feed_refs f.set) h5;
      clear = Each-right P r5 (feed_refs f.clear) h6;
      keep = Each-right P r6 (mask_refs f.keep) h;
    }

gate_worth : (net : Net) (s : Scene) (g : Gate) (high low path : List ℕ) (place : ℕ) → IsBase net s.base.now → HasNodes net s (gate_refs g) → AreWide s.base.now.block.now 1 (gate_refs g) → GateHas (IsDataPin s.base.now.block.now) g high low path
    → IsGatePlace s.base.now.block.now g high low path place → MayBeWorth s.base.now.block.now s.base.now.inlet net (gated_node s g place) 1 (λ n v. gated n v g high low path)
gate_worth net s gate.Always high low path place base refs wide has at = may_none s.base.now.block.now s.base.now.inlet net 1 (λ n v. 0) (λ n v. refl)
gate_worth net s (gate.High from) high low path place base refs wide has at = fed_worth net s from (high ++ path) 1 place (record { base = base; refs = refs; wide = wide; pin = has; at = at })
gate_worth net s (gate.Low from) high low path place base refs wide has at = fed_worth net s from (low ++ path) 1 place (record { base = base; refs = refs; wide = wide; pin = has; at = at })

mask_worth : (net : Net) (s : Scene) (m : Mask) (w : ℕ) → HasNodes net s (mask_refs m) → AreWide s.base.now.block.now w (mask_refs m) → MayBeWorth s.base.now.block.now s.base.now.inlet net (mask_node s m) w (λ n v. mask_value v m)
mask_worth net s mask.Off w h wide = may_none s.base.now.block.now s.base.now.inlet net w (λ n v. 0) (λ n v. refl)
mask_worth net s (mask.Enable i) w h wide = item_worth net s i w h wide.0.1
mask_worth net s (mask.Mask i) w h wide = item_worth net s i w h wide.0.1

-- what a field's source gives
pub given_is : (net : Net) (s : Scene) (k : ℕ) (f : Field) → IsBase net s.base.now → slice_get s.base.now.block.now.fields k ≡ Some f → HasNodes net s (feed_refs f.source) → (p : FieldPlaces) → Some p ≡ slice_get s.base.now.plan.now.fields.items k
    → MayBeWorth s.base.now.block.now s.base.now.inlet net (fed_node s f.source p.source) f.width (λ n v. source_value n v f)
given_is net s k f base here refs p e =
    let b = s.base.now.block.now in
    let (q, there, are) = base.planned.fields k f here in
    let at : AreFieldPlaces b f p = subst (AreFieldPlaces b f) (same_Some q p (sym there ∙ sym e)) are in
    fed_worth net s f.source (codes "in$" ++ f.path) f.width p.source (record { base = base; refs = refs; wide = (field_sound b base.sound k f here).refers.source; pin = (field_data b base.sound k f here).source; at = at.source })

pub given_placed : (net : Net) (s : Scene) (k : ℕ) (f : Field) → IsBase net s.base.now → slice_get s.base.now.block.now.fields k ≡ Some f → None ≡ slice_get s.base.now.plan.now.fields.items k → ⊥
given_placed net s k f base here e = let (q, there, are) = base.planned.fields k f here in let n : None ≡ Some q = e ∙ there in cc

-- what the look-ups of a field find
module _ (net : Net) (s : Scene) (k : ℕ) (f : Field) (h : HasField net s k f) where
  abbrev b : Block
  b = s.base.now.block.now

  abbrev a : Inlet
  a = s.base.now.inlet

  pub own_sound : FieldIsSoundIn b (k, f)
  own_sound = field_sound b h.base.sound k f h.here

  pub own_refs : HardwareHas (IsItem b a net s.items.now) f
  own_refs = hardware_has (IsItem b a net s.items.now) f h.refs

  pub own_places : (p : FieldPlaces) → Some p ≡ slice_get s.base.now.plan.now.fields.items k → AreFieldPlaces b f p
  own_places p e = let (q, there, are) = h.base.planned.fields k f h.here in subst (AreFieldPlaces b f) (same_Some q p (sym there ∙ sym e)) are

  pub placed : None ≡ slice_get s.base.now.plan.now.fields.items k → ⊥
  placed e = let (q, there, are) = h.base.planned.fields k f h.here in let n : None ≡ Some q = e ∙ there in cc

  pub source_is : (o : Option Id) → ((net : Net) → IsBase net s.base.now → slice_get s.base.now.block.now.fields k ≡ Some f → HasNodes net s (feed_refs f.source) → MayBeWorth b a net o f.width (λ n v. source_value n v f)) → MayBeWorth b a net o f.width (λ n v. source_value n v f)
  source_is o given = given net h.base h.here own_refs.source

  pub gate_is : (p : FieldPlaces) → Some p ≡ slice_get s.base.now.plan.now.fields.items k → MayBeWorth b a net (gated_node s f.gate p.gate) 1 (λ n v. gated n v f.gate (codes "we$") (codes "wel$") f.path)
  gate_is p e =
      let bits = own_sound.refers.bits in
      let first = Each-left _ (gate_refs f.gate ++ feed_refs f.set) (feed_refs f.clear) bits in
      gate_worth net s f.gate (codes "we$") (codes "wel$") f.path p.gate h.base own_refs.gate (Each-left _ (gate_refs f.gate) (feed_refs f.set) first) (field_data b h.base.sound k f h.here).gate (own_places p e).gate

  pub set_is : (p : FieldPlaces) → Some p ≡ slice_get s.base.now.plan.now.fields.items k → MayBeWorth b a net (fed_node s f.set p.set) 1 (λ n v. fed n v f.set (codes "hwset$" ++ f.path))
  set_is p e =
      let bits = own_sound.refers.bits in
      let first = Each-left _ (gate_refs f.gate ++ feed_refs f.set) (feed_refs f.clear) bits in
      fed_worth net s f.set (codes "hwset$" ++ f.path) 1 p.set (record { base = h.base; refs = own_refs.set; wide = Each-right _ (gate_refs f.gate) (feed_refs f.set) first; pin = (field_data b h.base.sound k f h.here).set; at = (own_places p e).set })

  pub clear_is : (p : FieldPlaces) → Some p ≡ slice_get s.base.now.plan.now.fields.items k → MayBeWorth b a net (fed_node s f.clear p.clear) 1 (λ n v. fed n v f.clear (codes "hwclr$" ++ f.path))
  clear_is p e =
      fed_worth net s f.clear (codes "hwclr$" ++ f.path) 1 p.clear
      (record { base = h.base; refs = own_refs.clear; wide = Each-right _ (gate_refs f.gate ++ feed_refs f.set) (feed_refs f.clear) own_sound.refers.bits; pin = (field_data b h.base.sound k f h.here).clear; at = (own_places p e).clear })

  pub keep_is : MayBeWorth b a net (mask_node s f.keep) f.width (λ n v. mask_value v f.keep)
  keep_is = mask_worth net s f.keep f.width own_refs.keep (Each-left _ (mask_refs f.keep) (mask_refs f.enable) (Each-left _ (mask_refs f.keep ++ mask_refs f.enable) (mask_refs f.halt) own_sound.refers.masks))

-- and of a view
module _ (net : Net) (s : Scene) (k : ℕ) (u : View) (h : HasView net s k u) where
  pub view_is : (place : ℕ) → Some place ≡ slice_get s.base.now.plan.now.gates.items k → MayBeWorth s.base.now.block.now s.base.now.inlet net (gated_node s u.gate place) 1 (λ n v. view_gate n v u)
  view_is place e =
      let b = s.base.now.block.now in
      let (q, there, is) = h.base.planned.gates k u h.here in
      let sound : ViewIsSound b (k, u) = Each-from_zero (ViewIsSound b) b.views k u h.base.sound.views h.here in
      let at : IsGatePlace b u.gate (codes "swwe$") (codes "swwel$") u.path place = subst (IsGatePlace b u.gate (codes "swwe$") (codes "swwel$") u.path) (same_Some q place (sym there ∙ sym e)) is in
      gate_worth net s u.gate (codes "swwe$") (codes "swwel$") u.path place h.base h.refs sound.gate_bit (view_data b h.base.sound k u h.here) at

  pub view_placed : None ≡ slice_get s.base.now.plan.now.gates.items k → ⊥
  view_placed e = let (q, there, is) = h.base.planned.gates k u h.here in let n : None ≡ Some q = e ∙ there in cc

-- the pin of a signal
module _ (net : Net) (s : Scene) (k : ℕ) (g : Signal) (base : IsBase net s.base.now) (here : slice_get s.base.now.block.now.signals k ≡ Some g) where
  pub signal_is : (place : ℕ) → Some place ≡ slice_get s.base.now.plan.now.signals.items k → MayBeWorth s.base.now.block.now s.base.now.inlet net (slice_get s.base.now.pins.now place) g.width (λ n v. n.pins (signal_name g))
  signal_is place e =
      let b = s.base.now.block.now in
      let (q, there, is) = base.planned.signals k g here in
      let given = signal_data b base.sound k g here in
      let at_place : IsPlaceOf b (signal_name g) place = subst (IsPlaceOf b (signal_name g)) (same_Some q place (sym there ∙ sym e)) is in
      let n = pin_node b net s.base.now.pins.now (pin (signal_name g) g.width) place base.pins given at_place in
      subst (λ x. MayBeWorth b s.base.now.inlet net x g.width (λ n v. n.pins (signal_name g))) (sym n.0) (may_some b s.base.now.inlet net _ g.width _ (pin_is b s.base.now.inlet net _ (pin (signal_name g) g.width) given n.1))

  pub signal_placed : None ≡ slice_get s.base.now.plan.now.signals.items k → ⊥
  signal_placed e = let (q, there, is) = base.planned.signals k g here in let n : None ≡ Some q = e ∙ there in cc
