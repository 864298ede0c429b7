-- What holds of each input pin of a block holds of the pins that its fields, views and signals use.
use Rattle.std.proofs.Common.{◌≡◌, ℕ, zero, suc, ◌+◌, ◌==◌, Bool, true, false, not, ◌&&◌, if◌then◌else◌, Option, Some, None, List, [], ◌∷◌, ◌++◌, codes, slice_get, map, filter, refl, ap, sym, ◌∙◌, subst, arith}
use Rattle.std.specs.List.{enumerate_from, flat_map}
use Rattle.std.proofs.lemmas.Option.{same_Some}
use Rattle.rb_base.specs.declared.ports.Pin.{Pin}
use Rattle.rb_model.specs.declared.kinds.Feed.{Feed}
use Rattle.rb_model.specs.declared.kinds.Feed.TheVariants as feed
use Rattle.rb_model.specs.declared.kinds.Gate.{Gate}
use Rattle.rb_model.specs.declared.kinds.Gate.TheVariants as gate
use Rattle.rb_model.specs.declared.kinds.Amount.{Amount}
use Rattle.rb_model.specs.declared.kinds.Amount.TheVariants as amount
use Rattle.rb_model.specs.declared.kinds.Part.{Part}
use Rattle.rb_model.specs.declared.kinds.Count.{Count}
use Rattle.rb_model.specs.declared.block.Block.{Block}
use Rattle.rb_model.specs.declared.block.Field.{Field}
use Rattle.rb_model.specs.declared.block.View.{View}
use Rattle.rb_model.specs.declared.block.Signal.{Signal}
use Rattle.rb_model.specs.Kept.{when}
use Rattle.rb_model.specs.Ports.{pin, is_pin, gate_pins, amount_pins, part_pins, count_pins, view_pins, field_pins, signal_pins, signal_name, input_pins}
use Rattle.rb_model.specs.Own.{IsOwnView, own_pins}
use Rattle.rb_model.specs.PinsHave.{FeedHas, GateHas, AmountHas, ViewHas}
use Rattle.rb_model.specs.References.{Each}
use Rattle.rb_model.specs.SoundField.{FieldIsSoundIn}
use Rattle.rb_model.specs.Sound.{IsSound, ViewIsSound}
use Rattle.rb_model.proofs.Eachs.{Each-left, Each-right, Each-from_zero}
use Rattle.rb_model.proofs.OwnViews.{by_cases, TheOne, one_passes, own_test, field_pins-own}
use Rattle.rb_model.proofs.InputPins.{bus_pins, input_pins_are}

abbrev pub PartHas : (Pin → Type 0) → Option Part → (pulse value : List ℕ) → Type 0
PartHas Q None pulse value = Unit {0}
PartHas Q (Some p) pulse value = FeedHas Q p.pulse pulse 1 × AmountHas Q p.amount value

abbrev pub CountHas : (Pin → Type 0) → Option Count → List ℕ → Type 0
CountHas Q None path = Unit {0}
CountHas Q (Some c) path = PartHas Q c.up (codes "incr$" ++ path) (codes "incrvalue$" ++ path) × PartHas Q c.down (codes "decr$" ++ path) (codes "decrvalue$" ++ path)

pub record FieldHas (Q : Pin → Type 0) (f : Field) : Type 0 where
  pub source : FeedHas Q f.source (codes "in$" ++ f.path) f.width
  pub gate : GateHas Q f.gate (codes "we$") (codes "wel$") f.path
  pub set : FeedHas Q f.set (codes "hwset$" ++ f.path) 1
  pub clear : FeedHas Q f.clear (codes "hwclr$" ++ f.path) 1
  pub count : CountHas Q f.count f.path

module _ (Q : Pin → Type 0) where
  feed_has : (x : Feed) (name : List ℕ) (w : ℕ) → Each Q (when (is_pin x) (pin name w)) → FeedHas Q x name w
  feed_has feed.Off name w h = tt
  feed_has feed.Pin name w h = h.0
  feed_has (feed.Item i) name w h = tt

  gate_has : (g : Gate) (high low path : List ℕ) → Each Q (gate_pins g high low path) → GateHas Q g high low path
  gate_has gate.Always high low path h = tt
  gate_has (gate.High from) high low path h = feed_has from (high ++ path) 1 h
  gate_has (gate.Low from) high low path h = feed_has from (low ++ path) 1 h

  amount_has : (a : Amount) (name : List ℕ) → Each Q (amount_pins a name) → AmountHas Q a name
  amount_has (amount.Number n) name h = tt
  amount_has (amount.Item i) name h = tt
  amount_has (amount.Pin w) name h = h.0

  part_has : (p : Option Part) (pulse value : List ℕ) → Each Q (part_pins p pulse value) → PartHas Q p pulse value
  part_has None pulse value h = tt
  part_has (Some p) pulse value h = (feed_has p.pulse pulse 1 (Each-left Q (when (is_pin p.pulse) (pin pulse 1)) (amount_pins p.amount value) h), amount_has p.amount value (Each-right Q (when (is_pin p.pulse) (pin pulse 1)) (amount_pins p.amount value) h))

  count_has : (c : Option Count) (path : List ℕ) → Each Q (count_pins c path) → CountHas Q c path
  count_has None path h = tt
  count_has (Some c) path h =
      let up = part_pins c.up (codes "incr$" ++ path) (codes "incrvalue$" ++ path) in
      let down = part_pins c.down (codes "decr$" ++ path) (codes "decrvalue$" ++ path) in
      (part_has c.up (codes "incr$" ++ path) (codes "incrvalue$" ++ path) (Each-left Q up down h), part_has c.down (codes "decr$" ++ path) (codes "decrvalue$" ++ path) (Each-right Q up down h))

  own_has : (f : Field) (v : View) → Each Q (own_pins f v) → FieldHas Q f × ViewHas Q v
  own_has f v h =
      let source = when (is_pin f.source) (pin (codes "in$" ++ f.path) f.width) in
      let gates = gate_pins f.gate (codes "we$") (codes "wel$") f.path in
      let set = when (is_pin f.set) (pin (codes "hwset$" ++ f.path) 1) in
      let clear = when (is_pin f.clear) (pin (codes "hwclr$" ++ f.path) 1) in
      let h5 : Each Q (source ++ gates ++ view_pins v ++ set ++ clear) = Each-left Q (source ++ gates ++ view_pins v ++ set ++ clear) (count_pins f.count f.path) h in
      let h4 : Each Q (source ++ gates ++ view_pins v ++ set) = Each-left Q (source ++ gates ++ view_pins v ++ set) clear h5 in
      let h3 : Each Q (source ++ gates ++ view_pins v) = Each-left Q (source ++ gates ++ view_pins v) set h4 in
      let h2 : Each Q (source ++ gates) = Each-left Q (source ++ gates) (view_pins v) h3 in (
        record {
          source = feed_has f.source (codes "in$" ++ f.path) f.width (Each-left Q source gates h2);
          gate = gate_has f.gate (codes "we$") (codes "wel$") f.path (Each-right Q source gates h2);
          set = feed_has f.set (codes "hwset$" ++ f.path) 1 (Each-right Q (source ++ gates ++ view_pins v) set h4);
          clear = feed_has f.clear (codes "hwclr$" ++ f.path) 1 (Each-right Q (source ++ gates ++ view_pins v ++ set) clear h5);
          count = count_has f.count f.path (Each-right Q (source ++ gates ++ view_pins v ++ set ++ clear) (count_pins f.count f.path) h);
        },
        gate_has v.gate (codes "swwe$") (codes "swwel$") v.path (Each-right Q (source ++ gates) (view_pins v) h3),
      )

  -- what is made of the element at k, and of one that passes
  at_flat_map : {X : Type 0} (f : ℕ × X → List Pin) (n : ℕ) (xs : List X) (k : ℕ) (x : X) → Each Q (flat_map f (enumerate_from n xs)) → slice_get xs k ≡ Some x → Each Q (f (n + k, x))
  at_flat_map f n [] k x h e = cc
  at_flat_map f n (y ∷ ys) zero x h e =
      let q : y ≡ x = same_Some y x e in let z : n + 0 ≡ n = omega arith in
      rw (z, sym q) (Each-left Q (f (n, y)) (flat_map f (enumerate_from (n + 1) ys)) h)
  at_flat_map {X} f n (y ∷ ys) (suc k) x h e =
      let r : Each Q (f (n + 1 + k, x)) = at_flat_map f (n + 1) ys k x (Each-right Q (f (n, y)) (flat_map f (enumerate_from (n + 1) ys)) h) e in
      let z : n + 1 + k ≡ n + suc k = omega arith in
      let R : ℕ → Type 0 = λ m. Each Q (f (m, x)) in subst R z r

  passing_flat_map : {X : Type 0} (f : X → List Pin) (test : X → Bool) (xs : List X) (k : ℕ) (x : X) → Each Q (flat_map f (filter test xs)) → slice_get xs k ≡ Some x → test x ≡ true → Each Q (f x)
  passing_flat_map f test [] k x h e t = cc
  passing_flat_map f test (y ∷ ys) zero x h e t =
      let s : y ≡ x = same_Some y x e in
      let u : test y ≡ true = ap test s ∙ t in
      let g : Each Q (f y ++ flat_map f (filter test ys)) = subst (λ c. Each Q (flat_map f (if c then y ∷ filter test ys else filter test ys))) u h in
      rw (sym s) (Each-left Q (f y) (flat_map f (filter test ys)) g)
  passing_flat_map f test (y ∷ ys) (suc k) x h e t = by_cases (test y)
      (λ u. let g : Each Q (f y ++ flat_map f (filter test ys)) = subst (λ c. Each Q (flat_map f (if c then y ∷ filter test ys else filter test ys))) u h in
      passing_flat_map f test ys k x (Each-right Q (f y) (flat_map f (filter test ys)) g) e t)
      (λ u. let g : Each Q (flat_map f (filter test ys)) = subst (λ c. Each Q (flat_map f (if c then y ∷ filter test ys else filter test ys))) u h in passing_flat_map f test ys k x g e t)

  signal_has : (root : Bool) (ss : List Signal) (k : ℕ) (s : Signal) → Each Q (signal_pins root ss) → slice_get ss k ≡ Some s → (if root then s.root else not s.root) ≡ true → Q (pin (signal_name s) s.width)
  signal_has root ss k s h e t = (passing_flat_map (λ s. pin (signal_name s) s.width ∷ []) (λ s. if root then s.root else not s.root) ss k s (flattened (filter (λ s. if root then s.root else not s.root) ss) h) e t).0
    where
      flattened : (ts : List Signal) → Each Q (map (λ s. pin (signal_name s) s.width) ts) → Each Q (flat_map (λ s. pin (signal_name s) s.width ∷ []) ts)
      flattened [] g = tt
      flattened (t ∷ ts) g = (g.0, flattened ts g.1)

  -- Q holds of each pin of a sound block's vectors
  module _ (b : Block) (sound : IsSound b) (all : Each Q (input_pins b)) where
    fields : List Pin
    fields = flat_map (field_pins b.views) (enumerate_from 0 b.fields)

    aliases : List Pin
    aliases = flat_map view_pins (filter (λ v. v.alias) b.views)

    before : List Pin
    before = bus_pins ++ signal_pins true b.signals ++ signal_pins false b.signals

    parts : Each Q (before ++ fields ++ aliases)
    unfolding before fields aliases
    parts = subst (λ ps. Each Q ps) (input_pins_are b sound) all

    pub bus_has : Each Q bus_pins
    unfolding before
    bus_has = Each-left Q bus_pins (signal_pins true b.signals) (Each-left Q (bus_pins ++ signal_pins true b.signals) (signal_pins false b.signals) (Each-left Q before fields (Each-left Q (before ++ fields) aliases parts)))

    pub block_signal_has : (k : ℕ) (s : Signal) → slice_get b.signals k ≡ Some s → Q (pin (signal_name s) s.width)
    unfolding before
    block_signal_has k s e =
        let h : Each Q before = Each-left Q before fields (Each-left Q (before ++ fields) aliases parts) in
        by_cases s.root
        (λ t. signal_has true b.signals k s (Each-right Q bus_pins (signal_pins true b.signals) (Each-left Q (bus_pins ++ signal_pins true b.signals) (signal_pins false b.signals) h)) e t)
        (λ f. signal_has false b.signals k s (Each-right Q (bus_pins ++ signal_pins true b.signals) (signal_pins false b.signals) h) e (ap not f))

    own_part : (k : ℕ) (f : Field) → slice_get b.fields k ≡ Some f → (v : View) (j : ℕ) → slice_get b.views j ≡ Some v → v.field ≡ k → v.alias ≡ false → FieldHas Q f × ViewHas Q v
    unfolding fields
    own_part k f e v j here of alone =
        let h : Each Q (flat_map (field_pins b.views) (enumerate_from 0 b.fields)) = Each-right Q before fields (Each-left Q (before ++ fields) aliases parts) in
        let z : 0 + k ≡ k = omega arith in
        let at : Each Q (field_pins b.views (k, f)) = subst (λ m. Each Q (field_pins b.views (m, f))) z (at_flat_map (field_pins b.views) 0 b.fields k f h e) in
        let s : FieldIsSoundIn b (k, f) = Each-from_zero (FieldIsSoundIn b) b.fields k f sound.fields e in
        let own : IsOwnView b.views k j = record { view = v; here = here; of = of; alone = alone } in
        own_has f v (subst (λ ps. Each Q ps) (field_pins-own b.views k f j own s.one_view) at)

    pub field_has : (k : ℕ) (f : Field) → slice_get b.fields k ≡ Some f → FieldHas Q f
    field_has k f e =
        let s : FieldIsSoundIn b (k, f) = Each-from_zero (FieldIsSoundIn b) b.fields k f sound.fields e in
        let o : TheOne (λ v. v.field == k && not v.alias) b.views = one_passes (λ v. v.field == k && not v.alias) b.views s.one_view in
        let told : (o.it.field ≡ k) × (o.it.alias ≡ false) = own_test k o.it o.passes in
        (own_part k f e o.it o.at o.here told.0 told.1).0

    pub view_has : (j : ℕ) (v : View) → slice_get b.views j ≡ Some v → ViewHas Q v
    unfolding aliases
    view_has j v e = by_cases v.alias
        (λ t. gate_has v.gate (codes "swwe$") (codes "swwel$") v.path (passing_flat_map view_pins (λ v. v.alias) b.views j v (Each-right Q (before ++ fields) aliases parts) e t))
        (λ f. let s : ViewIsSound b (j, v) = Each-from_zero (ViewIsSound b) b.views j v sound.views e in (own_part v.field s.of.0 s.of.1 v j e refl f).1)
