-- From nodes to what they are worth, and on to netlists that have more.
use Rattle.std.proofs.Common.{◌≡◌, ℕ, Bool, Option, Some, None, List, refl, ap, ◌∙◌, subst}
use Rattle.rtl_net.specs.Value.{At}
use Rattle.rtl_net.specs.Net.{Net, Extends, Grows, Stands, IsNode, MayHave, seen, seen_or_zero}
use Rattle.rtl_net.specs.Ids.{at}
use Rattle.rtl_net.specs.declared.node.Id.{Id}
use Rattle.rtl_net.proofs.Nets.{Extends-grows, IsNode-extends, Stands-extends}
use Rattle.rb_model.specs.declared.kinds.RefItem.{RefItem}
use Rattle.rb_model.specs.declared.block.Block.{Block}
use Rattle.rb_model.specs.declared.block.Field.{Field}
use Rattle.rb_model.specs.declared.block.View.{View}
use Rattle.rb_model.specs.Items.{Now, ItemValues, AreItemValues}
use Rattle.rb_model.specs.References.{item_width}
use Rattle.rb_model.proofs.Eachs.{Each-weaker}
use Rattle.block_plan.specs.Table.{item_place}
use Rattle.gen_scene.specs.declared.base.Base.{Base}
use Rattle.gen_scene.specs.declared.base.Inlet.{Inlet}
use Rattle.gen_scene.specs.declared.items.Marks.{Marks}
use Rattle.gen_scene.specs.declared.scene.Scene.{Scene}
use Rattle.gen_scene.specs.Bases.{HasInlet, HasKept, HasPins, IsBase, IsPinNode}
use Rattle.gen_scene.specs.Fields.{HasField, HasNodes, HasView}
use Rattle.gen_scene.specs.Items.{AreMarks, HasItems, IsItem}
use Rattle.gen_scene.specs.Worth.{IsRead, IsSeenAs, IsWorth, MayBeWorth}

MayHave-extends : (old new : Net) (o : Option Id) (w : ℕ) → Extends old new → MayHave old o w → MayHave new o w
MayHave-extends old new None w h m = tt
MayHave-extends old new (Some id) w h m = Stands-extends old new id w h m

module _ (b : Block) (a : Inlet) where
  -- What is read and what nodes are worth stays where a netlist gets more

  pub IsRead-extends : {X : Type 0} (old new : Net) (r : At → X) (g : Now → ItemValues → X) → Extends old new → IsRead b a old r g → IsRead b a new r g
  IsRead-extends old new r g h k = record { value = λ v s. k.value v (h.settles v s) }

  pub IsWorth-extends : (old new : Net) (id : Id) (w : ℕ) (g : Now → ItemValues → ℕ) → Extends old new → IsWorth b a old id w g → IsWorth b a new id w g
  IsWorth-extends old new id w g h k = record { stands = Stands-extends old new id w h k.stands; value = λ v s. k.value v (h.settles v s) }

  pub MayBeWorth-extends : (old new : Net) (o : Option Id) (w : ℕ) (g : Now → ItemValues → ℕ) → Extends old new → MayBeWorth b a old o w g → MayBeWorth b a new o w g
  MayBeWorth-extends old new o w g h k = record { may = MayHave-extends old new o w h k.may; read = IsRead-extends old new (λ v. seen_or_zero v o) g h k.read }

  pub IsSeenAs-extends : (old new : Net) (o : Option Id) (w : ℕ) (g : Now → ItemValues → Option ℕ) → Extends old new → IsSeenAs b a old o w g → IsSeenAs b a new o w g
  IsSeenAs-extends old new o w g h k = record { may = MayHave-extends old new o w h k.may; read = IsRead-extends old new (λ v. seen v o) g h k.read }

  pub IsItem-extends : (old new : Net) (table : List Id) (i : RefItem) → Extends old new → IsItem b a old table i → IsItem b a new table i
  IsItem-extends old new table i h k = record { within = k.within; worth = IsWorth-extends old new (at table (item_place i)) (item_width b i) (λ n v. v i) h k.worth }

  pub HasItems-extends : (old new : Net) (wanted : List Bool) (table : List Id) → Extends old new → HasItems b a old wanted table → HasItems b a new wanted table
  HasItems-extends old new wanted table h k = record { each = λ i c w. IsItem-extends old new table i h (k.each i c w) }

  pub AreMarks-extends : (old new : Net) (wanted : List Bool) (marks : List Marks) → Extends old new → AreMarks b a old wanted marks → AreMarks b a new wanted marks
  AreMarks-extends old new wanted marks h k = record {
    long = k.long;
    modified = λ m f e t. IsWorth-extends old new _ 1 _ h (k.modified m f e t);
    accessed = λ m f e t. IsWorth-extends old new _ 1 _ h (k.accessed m f e t);
  }

  pub HasKept-extends : (old new : Net) (kept : List Id) → Extends old new → HasKept b a old kept → HasKept b a new kept
  HasKept-extends old new kept h k = record { long = k.long; each = λ j q e. IsWorth-extends old new (at kept j) _ _ h (k.each j q e) }

  pub IsRead-grows : {X : Type 0} (old new : Net) (r : At → X) (g : Now → ItemValues → X) → Grows old new → IsRead b a old r g → IsRead b a new r g
  IsRead-grows old new r g h = IsRead-extends old new r g (Extends-grows old new h)

  pub IsWorth-grows : (old new : Net) (id : Id) (w : ℕ) (g : Now → ItemValues → ℕ) → Grows old new → IsWorth b a old id w g → IsWorth b a new id w g
  IsWorth-grows old new id w g h = IsWorth-extends old new id w g (Extends-grows old new h)

  pub MayBeWorth-grows : (old new : Net) (o : Option Id) (w : ℕ) (g : Now → ItemValues → ℕ) → Grows old new → MayBeWorth b a old o w g → MayBeWorth b a new o w g
  MayBeWorth-grows old new o w g h = MayBeWorth-extends old new o w g (Extends-grows old new h)

  pub IsSeenAs-grows : (old new : Net) (o : Option Id) (w : ℕ) (g : Now → ItemValues → Option ℕ) → Grows old new → IsSeenAs b a old o w g → IsSeenAs b a new o w g
  IsSeenAs-grows old new o w g h = IsSeenAs-extends old new o w g (Extends-grows old new h)

  pub IsItem-grows : (old new : Net) (table : List Id) (i : RefItem) → Grows old new → IsItem b a old table i → IsItem b a new table i
  IsItem-grows old new table i h = IsItem-extends old new table i (Extends-grows old new h)

  pub HasItems-grows : (old new : Net) (wanted : List Bool) (table : List Id) → Grows old new → HasItems b a old wanted table → HasItems b a new wanted table
  HasItems-grows old new wanted table h = HasItems-extends old new wanted table (Extends-grows old new h)

  pub AreMarks-grows : (old new : Net) (wanted : List Bool) (marks : List Marks) → Grows old new → AreMarks b a old wanted marks → AreMarks b a new wanted marks
  AreMarks-grows old new wanted marks h = AreMarks-extends old new wanted marks (Extends-grows old new h)

  -- Readings

  pub read_constant : {X : Type 0} (net : Net) (x : X) → IsRead b a net (λ v. x) (λ n u. x)
  read_constant net x = record { value = λ v s n f items c. refl }

  pub read_node : (net : Net) (id : Id) (w : ℕ) (g : Now → ItemValues → ℕ) → IsWorth b a net id w g → IsRead b a net (λ v. v.node id.0) g
  read_node net id w g h = record { value = h.value }

  pub read_as : {X : Type 0} (net : Net) (r : At → X) (g h : Now → ItemValues → X) → IsRead b a net r g → ((n : Now) (u : ItemValues) → AreItemValues b n u → g n u ≡ h n u) → IsRead b a net r h
  read_as net r g h k e = record { value = λ v s n f items c. k.value v s n f items c ∙ e n items c }

  pub read1 : {X Y : Type 0} (net : Net) (F : X → Y) (r : At → X) (gr : Now → ItemValues → X) → IsRead b a net r gr → IsRead b a net (λ x. F (r x)) (λ n u. F (gr n u))
  read1 net F r gr hr = record { value = λ v q n f items c. ap F (hr.value v q n f items c) }

  pub read2 : {X Y Z : Type 0} (net : Net) (F : X → Y → Z) (r : At → X) (s : At → Y) (gr : Now → ItemValues → X) (gs : Now → ItemValues → Y) → IsRead b a net r gr → IsRead b a net s gs
      → IsRead b a net (λ x. F (r x) (s x)) (λ n u. F (gr n u) (gs n u))
  read2 net F r s gr gs hr hs = record { value = λ v q n f items c. ap (λ x. F x (s v)) (hr.value v q n f items c) ∙ ap (F (gr n items)) (hs.value v q n f items c) }

  -- Nodes by their readings

  pub worth0 : (net : Net) (id : Id) (w : ℕ) (x : ℕ) → IsNode net id w (λ v. x) → IsWorth b a net id w (λ n u. x)
  worth0 net id w x node = record { stands = node.stands; value = λ v q n f items c. node.value v q }

  pub worth_read : (old new : Net) (id : Id) (w : ℕ) (r : At → ℕ) (gr : Now → ItemValues → ℕ) → Grows old new → IsNode new id w r → IsRead b a old r gr → IsWorth b a new id w gr
  worth_read old new id w r gr h node hr = record { stands = node.stands; value = λ v q n f items c. node.value v q ∙ hr.value v (h.settles v q) n f items c }

  pub worth1 : {X : Type 0} (old new : Net) (id : Id) (w : ℕ) (F : X → ℕ) (r : At → X) (gr : Now → ItemValues → X) → Grows old new → IsNode new id w (λ x. F (r x)) → IsRead b a old r gr → IsWorth b a new id w (λ n u. F (gr n u))
  worth1 old new id w F r gr h node hr = record { stands = node.stands; value = λ v q n f items c. node.value v q ∙ ap F (hr.value v (h.settles v q) n f items c) }

  pub worth2 : {X Y : Type 0} (old new : Net) (id : Id) (w : ℕ) (F : X → Y → ℕ) (r : At → X) (s : At → Y) (gr : Now → ItemValues → X) (gs : Now → ItemValues → Y) → Grows old new
      → IsNode new id w (λ x. F (r x) (s x)) → IsRead b a old r gr → IsRead b a old s gs → IsWorth b a new id w (λ n u. F (gr n u) (gs n u))
  worth2 old new id w F r s gr gs h node hr hs = record {
    stands = node.stands;
    value = λ v q n f items c.
        let p = h.settles v q in
        node.value v q ∙ ap (λ x. F x (s v)) (hr.value v p n f items c) ∙ ap (F (gr n items)) (hs.value v p n f items c);
  }

  pub worth3 : {X Y Z : Type 0} (old new : Net) (id : Id) (w : ℕ) (F : X → Y → Z → ℕ) (r : At → X) (s : At → Y) (t : At → Z) (gr : Now → ItemValues → X) (gs : Now → ItemValues → Y) (gt : Now → ItemValues → Z) → Grows old new
      → IsNode new id w (λ x. F (r x) (s x) (t x)) → IsRead b a old r gr → IsRead b a old s gs → IsRead b a old t gt → IsWorth b a new id w (λ n u. F (gr n u) (gs n u) (gt n u))
  worth3 old new id w F r s t gr gs gt h node hr hs ht = record {
    stands = node.stands;
    value = λ v q n f items c.
        let p = h.settles v q in
        node.value v q ∙ ap (λ x. F x (s v) (t v)) (hr.value v p n f items c) ∙ ap (λ y. F (gr n items) y (t v)) (hs.value v p n f items c) ∙ ap (F (gr n items) (gs n items)) (ht.value v p n f items c);
  }

  pub worth4 : {X Y Z W : Type 0} (old new : Net) (id : Id) (w : ℕ) (F : X → Y → Z → W → ℕ) (r : At → X) (s : At → Y) (t : At → Z) (u : At → W) (gr : Now → ItemValues → X) (gs : Now → ItemValues → Y)
      (gt : Now → ItemValues → Z) (gu : Now → ItemValues → W) → Grows old new → IsNode new id w (λ x. F (r x) (s x) (t x) (u x))
      → IsRead b a old r gr → IsRead b a old s gs → IsRead b a old t gt → IsRead b a old u gu → IsWorth b a new id w (λ n k. F (gr n k) (gs n k) (gt n k) (gu n k))
  worth4 old new id w F r s t u gr gs gt gu h node hr hs ht hu = record {
    stands = node.stands;
    value = λ v q n f items c.
        let p = h.settles v q in
        node.value v q ∙ ap (λ x. F x (s v) (t v) (u v)) (hr.value v p n f items c) ∙ ap (λ y. F (gr n items) y (t v) (u v)) (hs.value v p n f items c)
        ∙ ap (λ z. F (gr n items) (gs n items) z (u v)) (ht.value v p n f items c) ∙ ap (F (gr n items) (gs n items) (gt n items)) (hu.value v p n f items c);
  }

  -- the same node of another width or worth
  pub worth_as : (net : Net) (id : Id) (w u : ℕ) (g h : Now → ItemValues → ℕ) → IsWorth b a net id w g → w ≡ u → ((n : Now) (k : ItemValues) → AreItemValues b n k → g n k ≡ h n k) → IsWorth b a net id u h
  worth_as net id w u g h k e same = record { stands = subst (Stands net id) e k.stands; value = λ v s n f items c. k.value v s n f items c ∙ same n items c }

  -- an absent node, and one that is there
  pub may_none : (net : Net) (w : ℕ) (g : Now → ItemValues → ℕ) → ((n : Now) (u : ItemValues) → 0 ≡ g n u) → MayBeWorth b a net None w g
  may_none net w g e = record { may = tt; read = record { value = λ v s n f items c. e n items } }

  pub may_some : (net : Net) (id : Id) (w : ℕ) (g : Now → ItemValues → ℕ) → IsWorth b a net id w g → MayBeWorth b a net (Some id) w g
  may_some net id w g k = record { may = k.stands; read = record { value = k.value } }

-- What all nodes are made of stays

module _ (old new : Net) (h : Extends old new) where
  pub HasInlet-extends : (a : Inlet) → HasInlet old a → HasInlet new a
  HasInlet-extends a k = record { valid = Stands-extends old new a.valid 1 h k.valid; write = Stands-extends old new a.write 1 h k.write; word = Stands-extends old new a.word 16 h k.word; bits = Stands-extends old new a.bits 32 h k.bits }

  pub HasPins-extends : (b : Block) (pins : List Id) → HasPins b old pins → HasPins b new pins
  HasPins-extends b pins k = record {
    long = k.long;
    each = λ m p e o. let q : IsPinNode old (at pins m) p = k.each m p e o in record { input = h.inputs (at pins m) p.name p.width q.input; node = IsNode-extends old new (at pins m) p.width (λ v. v.ins p.name) h q.node };
  }

  pub IsBase-extends : (s : Base) → IsBase old s → IsBase new s
  IsBase-extends s k = record {
    sound = k.sound;
    planned = k.planned;
    inlet = HasInlet-extends s.inlet k.inlet;
    pins = HasPins-extends s.block.now s.pins.now k.pins;
    kept = HasKept-extends s.block.now s.inlet old new s.kept.now h k.kept;
  }

  pub HasNodes-extends : (s : Scene) (is : List RefItem) → HasNodes old s is → HasNodes new s is
  HasNodes-extends s is = Each-weaker (IsItem s.base.now.block.now s.base.now.inlet old s.items.now) (IsItem s.base.now.block.now s.base.now.inlet new s.items.now)
      (λ i. IsItem-extends s.base.now.block.now s.base.now.inlet old new s.items.now i h) is

  pub HasField-extends : (s : Scene) (k : ℕ) (f : Field) → HasField old s k f → HasField new s k f
  HasField-extends s k f g = record { base = IsBase-extends s.base.now g.base; here = g.here; refs = HasNodes-extends s _ g.refs }

  pub HasView-extends : (s : Scene) (k : ℕ) (u : View) → HasView old s k u → HasView new s k u
  HasView-extends s k u g = record { base = IsBase-extends s.base.now g.base; here = g.here; refs = HasNodes-extends s _ g.refs }

module _ (old new : Net) (h : Grows old new) where
  pub HasInlet-grows : (a : Inlet) → HasInlet old a → HasInlet new a
  HasInlet-grows = HasInlet-extends old new (Extends-grows old new h)

  pub IsBase-grows : (s : Base) → IsBase old s → IsBase new s
  IsBase-grows = IsBase-extends old new (Extends-grows old new h)

  pub HasNodes-grows : (s : Scene) (is : List RefItem) → HasNodes old s is → HasNodes new s is
  HasNodes-grows = HasNodes-extends old new (Extends-grows old new h)

  pub HasField-grows : (s : Scene) (k : ℕ) (f : Field) → HasField old s k f → HasField new s k f
  HasField-grows = HasField-extends old new (Extends-grows old new h)

  pub HasView-grows : (s : Scene) (k : ℕ) (u : View) → HasView old s k u → HasView new s k u
  HasView-grows = HasView-extends old new (Extends-grows old new h)
