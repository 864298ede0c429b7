-- The pins of resets, and what they make of registers.
use Rattle.std.proofs.Common.{◌≡◌, ℕ, ◌==◌, ◌<◌, ◌^◌, Bool, true, false, not, ◌&&◌, if◌then◌else◌, Option, Some, None, unwrap_or, List, ◌++◌, codes, length, map, slice_get, [], ◌∷◌, lit<, refl, sym, ap, ◌∙◌, subst, arith}
use Rattle.std.specs.Prelude.{Contains, IsTrue}
use Rattle.std.specs.List.{enumerate_from, list_all}
use Rattle.std.specs.Option.{option_map_or}
use Rattle.std.specs.Str.{bytes_eq}
use Rattle.std.proofs.Math.Pow.{pow_pos}
use Rattle.std.proofs.lemmas.Bool.Decides.{nat_tests}
use Rattle.std.proofs.lemmas.Option.{same_Some, slice_get_within, slice_get_read}
use Rattle.plain_lemmas.proofs.Bools.{and-both as and_left}
use Rattle.rb_base.specs.declared.ports.Pin.{Pin}
use Rattle.v_design.specs.Expr.{Values}
use Rattle.v_design.specs.Lexemes as design
use Rattle.v_design.specs.WellFormed.{distinct}
use Rattle.rtl_net.specs.Names as names
use Rattle.rtl_net.specs.Names.{clock, is_net_name}
use Rattle.rtl_net.specs.Value.{At, under}
use Rattle.rtl_net.specs.Net.{Net, Settles, Stands, CanReset, IsInput, IsWidth}
use Rattle.rtl_net.specs.Ids.{at}
use Rattle.rtl_net.specs.declared.node.Id.{Id}
use Rattle.rtl_net.specs.declared.node.NetReset.TheVariants as resets
use Rattle.rb_model.specs.declared.kinds.ResetBy.{ResetBy}
use Rattle.rb_model.specs.declared.block.Block.{Block}
use Rattle.rb_model.specs.declared.block.Field.{Field}
use Rattle.rb_model.specs.declared.block.Signal.{Signal}
use Rattle.rb_model.specs.Kept.{Kept, Val, Last, Done, Waited, Data, Error, Map, of_field, kept_of, when, is_storage, keeps_last, register_name, register_width, field_kept}
use Rattle.rb_model.specs.Ports.{pin, signal_name}
use Rattle.rb_model.specs.Items.{Now, ItemValues, AreItemValues}
use Rattle.rb_model.specs.Machine.{held, reset_pin, is_asserted}
use Rattle.rb_model.specs.References.{Each, WithSome}
use Rattle.rb_model.specs.Sound.{IsSound, is_path}
use Rattle.rb_model.proofs.Eachs.{Each-append, Each-at, Each-flat_map, Each-numbered_all}
use Rattle.block_plan.specs.declared.plan.Plan.{Plan}
use Rattle.block_plan.specs.Pins.{IsDataPin}
use Rattle.block_plan.specs.Plan.{IsPlanOf, IsPlaceOf}
use Rattle.block_plan.proofs.DataPins.{resetn_data, signal_data}
use Rattle.gen_scene.specs.declared.base.Inlet.{Inlet}
use Rattle.gen_scene.specs.Bases.{HasPins, IsPinNode, kept_number, kept_reset, kept_width, kept_word, reset_for, reset_in, reset_of, signal_place}
use Rattle.gen_scene.specs.Worth.{Finds, IsWorth}
use Rattle.block_plan.proofs.Wanting.{field_sound}
use Rattle.gen_scene.proofs.Sources.{pin_is, pin_node}
use Rattle.plain_lemmas.proofs.Lists.{all-get as list_at}

-- the pin of a reset
pub record ResetsAt (b : Block) (p : Plan) (signal : Option ℕ) : Type 0 where
  pub pin : Pin
  pub given : IsDataPin b pin
  pub one : pin.width ≡ 1
  pub place : IsPlaceOf b pin.name (signal_place p signal)
  pub other : bytes_eq pin.name clock ≡ false
  pub is : (v : Values) → option_map_or (λ s. option_map_or (λ g. v (signal_name g)) (slice_get b.signals s) 0) signal (v (codes "PRESETn")) ≡ v pin.name

name_other : (s : Signal) (c : Bool) → bytes_eq ((if c then codes "global$" else codes "signal$") ++ s.path) clock ≡ false
name_other s true = refl
name_other s false = refl

pub resets_at : (b : Block) → IsSound b → (p : Plan) → IsPlanOf b p → (signal : Option ℕ) → WithSome signal (λ s. (g : Signal) × (slice_get b.signals s ≡ Some g) × (g.width ≡ 1)) → ResetsAt b p signal
resets_at b sound p planned None h = record { pin = pin (codes "PRESETn") 1; given = resetn_data b sound; one = refl; place = planned.bus.resetn; other = refl; is = λ v. refl }
resets_at b sound p planned (Some s) h =
    let (g, here, one) = h in
    let (place, there, is) = planned.signals s g here in
    record {
      pin = pin (signal_name g) g.width;
      given = signal_data b sound s g here;
      one = one;
      place = subst (IsPlaceOf b (signal_name g)) (sym (ap (λ o. option_map_or (λ place. place) o p.bus.resetn) there)) is;
      other = name_other g g.root;
      is = λ v. ap (λ o. option_map_or (λ g. v (signal_name g)) o 0) here;
    }

-- a kept value is of a field
pub record IsKeptOf (b : Block) (k : Kept) : Type 0 where
  pub number : ℕ
  pub field : Field
  pub of : kept_number k ≡ Some number
  pub here : slice_get b.fields number ≡ Some field

when_each : {X : Type 0} (P : X → Type 0) (c : Bool) (x : X) → P x → Each P (when c x)
when_each P true x h = (h, tt)
when_each P false x h = tt

pub all_kept : (b : Block) → Each (IsKeptOf b) (field_kept b)
all_kept b = Each-flat_map (IsKeptOf b) kept_of (enumerate_from 0 b.fields) (Each-numbered_all (λ e. Each (IsKeptOf b) (kept_of e)) b.fields (λ k f here.
    Each-append (IsKeptOf b) (when (is_storage f.class) (Val k) ++ when (keeps_last f.latch) (Last k)) (when f.once (Done k))
    (Each-append (IsKeptOf b) (when (is_storage f.class) (Val k)) (when (keeps_last f.latch) (Last k))
    (when_each (IsKeptOf b) (is_storage f.class) (Val k) (record { number = k; field = f; of = refl; here = here }))
    (when_each (IsKeptOf b) (keeps_last f.latch) (Last k) (record { number = k; field = f; of = refl; here = here })))
    (when_each (IsKeptOf b) f.once (Done k) (record { number = k; field = f; of = refl; here = here }))))

pub kept_is_of : (b : Block) (k : Kept) → Contains (field_kept b) k → IsKeptOf b k
kept_is_of b k c =
    let (j, low, is) = c in
    Each-at (IsKeptOf b) (field_kept b) j k (all_kept b) (slice_get_read (field_kept b) (length (field_kept b)) j k refl low (sym is))

-- its register
pub name_is : (b : Block) (k : Kept) (n : ℕ) (f : Field) → kept_number k ≡ Some n → slice_get b.fields n ≡ Some f → register_name b k ≡ kept_word k ++ f.path
name_is b (Val k) n f of here = ap (λ o. codes "val$" ++ option_map_or (λ g. g.path) o []) (ap (slice_get b.fields) (same_Some k n of) ∙ here)
name_is b (Last k) n f of here = ap (λ o. codes "last$" ++ option_map_or (λ g. g.path) o []) (ap (slice_get b.fields) (same_Some k n of) ∙ here)
name_is b (Done k) n f of here = ap (λ o. codes "done$" ++ option_map_or (λ g. g.path) o []) (ap (slice_get b.fields) (same_Some k n of) ∙ here)
name_is b Waited n f of here = cc
name_is b Data n f of here = cc
name_is b Error n f of here = cc

pub width_is : (b : Block) (k : Kept) (n : ℕ) (f : Field) → kept_number k ≡ Some n → slice_get b.fields n ≡ Some f → register_width b k ≡ kept_width k f
width_is b (Val k) n f of here = ap (λ o. option_map_or (λ g. g.width) o 0) (ap (slice_get b.fields) (same_Some k n of) ∙ here)
width_is b (Last k) n f of here = ap (λ o. option_map_or (λ g. g.width) o 0) (ap (slice_get b.fields) (same_Some k n of) ∙ here)
width_is b (Done k) n f of here = refl
width_is b Waited n f of here = cc
width_is b Data n f of here = cc
width_is b Error n f of here = cc

pub reset_is : (b : Block) (p : Plan) (pins : List Id) (k : Kept) (n : ℕ) (f : Field) → kept_number k ≡ Some n → slice_get b.fields n ≡ Some f → reset_of b p pins k ≡ reset_in p pins k f
reset_is b p pins k n f of here = ap (λ o. option_map_or (λ m. of_field b m resets.None (reset_in p pins k)) o resets.None) of ∙ ap (λ o. option_map_or (reset_in p pins k) o resets.None) here

pub byte_wider : (c : ℕ) → design.is_name_byte c ≡ true → names.is_name_byte c ≡ true
byte_wider c h = grind (arith, nat_tests)

pub bytes_wider : (bs : List ℕ) → list_all design.is_name_byte bs ≡ true → list_all names.is_name_byte bs ≡ true
bytes_wider [] h = refl
bytes_wider (c ∷ bs) h = let p = and_left (design.is_name_byte c) (list_all design.is_name_byte bs) h in rw (byte_wider c p.0) (bytes_wider bs p.1)

pub named : (b : Block) → IsSound b → (k : Kept) (n : ℕ) (f : Field) → kept_number k ≡ Some n → slice_get b.fields n ≡ Some f → IsTrue (is_net_name (kept_word k ++ f.path))
named b sound k n f of here = by k of
  where
    path : list_all names.is_name_byte f.path ≡ true
    path = bytes_wider f.path (list_at (λ g. is_path g.path) b.fields n f (and_left (distinct (map (λ g. g.path) b.fields)) (list_all (λ g. is_path g.path) b.fields) sound.field_paths).1 here)

    by : (k : Kept) → kept_number k ≡ Some n → is_net_name (kept_word k ++ f.path) ≡ true
    by (Val k) e = rw path refl
    by (Last k) e = rw path refl
    by (Done k) e = rw path refl
    by Waited e = cc
    by Data e = cc
    by Error e = cc

pub wide : (b : Block) → IsSound b → (k : Kept) (n : ℕ) (f : Field) → kept_number k ≡ Some n → slice_get b.fields n ≡ Some f → IsWidth (kept_width k f)
wide b sound (Val k) n f of here = let w = (field_sound b sound n f here).alone.wide in (w.0, omega (arith, w.1))
wide b sound (Last k) n f of here = let w = (field_sound b sound n f here).alone.wide in (w.0, omega (arith, w.1))
wide b sound (Done k) n f of here = (omega arith, omega arith)
wide b sound Waited n f of here = cc
wide b sound Data n f of here = cc
wide b sound Error n f of here = cc

-- The register's reset

can_none : (net : Net) (w : ℕ) (pin : Id) (r : ResetBy) (o : Option ℕ) → ((x : ℕ) → o ≡ Some x → CanReset net w (resets.Async pin r.low x)) → CanReset net w (reset_for pin r o)
can_none net w pin r None h = tt
can_none net w pin r (Some x) h = by r.sync
  where
    by : (c : Bool) → CanReset net w (if c then resets.None else resets.Async pin r.low x)
    by true = tt
    by false = h x refl

reset_fits : (b : Block) → IsSound b → (k : Kept) (n : ℕ) (f : Field) → kept_number k ≡ Some n → slice_get b.fields n ≡ Some f → (x : ℕ) → kept_reset k f ≡ Some x → x < 2 ^ kept_width k f
reset_fits b sound (Val k) n f of here x e = by f.reset (field_sound b sound n f here).alone.reset e
  where
    by : (o : Option ℕ) → WithSome o (λ r. r < 2 ^ f.width) → o ≡ Some x → x < 2 ^ f.width
    by None h q = cc
    by (Some r) h q = subst (λ y. y < 2 ^ f.width) (same_Some r x q) h
reset_fits b sound (Last k) n f of here x e = let z : 0 ≡ x = same_Some 0 x e in subst (λ y. y < 2 ^ f.width) z (pow_pos f.width)
reset_fits b sound (Done k) n f of here x e = let z : 0 ≡ x = same_Some 0 x e in subst (λ y. y < 2 ^ 1) z (lit< tt)
reset_fits b sound Waited n f of here x e = cc
reset_fits b sound Data n f of here x e = cc
reset_fits b sound Error n f of here x e = cc

module _ (b : Block) (sound : IsSound b) (p : Plan) (planned : IsPlanOf b p) (net : Net) (pins : List Id) (has : HasPins b net pins) (n : ℕ) (f : Field) (here : slice_get b.fields n ≡ Some f) where
  pub own_reset : ResetsAt b p f.reset_by.signal
  own_reset = resets_at b sound p planned f.reset_by.signal (field_sound b sound n f here).reset_signal

  pub own_pin : IsPinNode net (at pins (signal_place p f.reset_by.signal)) own_reset.pin
  own_pin = (pin_node b net pins own_reset.pin (signal_place p f.reset_by.signal) has own_reset.given own_reset.place).1

  pub pin_within : signal_place p f.reset_by.signal < length pins
  pin_within = slice_get_within pins _ _ (pin_node b net pins own_reset.pin (signal_place p f.reset_by.signal) has own_reset.given own_reset.place).0

  pub can_reset : (k : Kept) → kept_number k ≡ Some n → CanReset net (kept_width k f) (reset_in p pins k f)
  can_reset k of = can_none net (kept_width k f) (at pins (signal_place p f.reset_by.signal)) f.reset_by (kept_reset k f)
      (λ x e. (own_reset.pin.name, subst (λ w. IsInput net (at pins (signal_place p f.reset_by.signal)) own_reset.pin.name w) own_reset.one own_pin.input, own_reset.other, reset_fits b sound k n f of here x e))

  -- the pin is worth what resets the field
  pub pin_worth : (a : Inlet) → IsWorth b a net (at pins (signal_place p f.reset_by.signal)) 1 (λ n v. reset_pin b n.pins f.reset_by)
  pin_worth a =
      let w = pin_is b a net (at pins (signal_place p f.reset_by.signal)) own_reset.pin own_reset.given own_pin in
      record { stands = subst (Stands net (at pins (signal_place p f.reset_by.signal))) own_reset.one w.stands; value = λ v t m found items c. w.value v t m found items c ∙ sym (own_reset.is m.pins) }

under_reset : (node : ℕ → ℕ) (pin : Id) (r : ResetBy) (o : Option ℕ) (p x : ℕ) → node pin.0 ≡ p → under node (reset_for pin r o) x ≡ (if (p == (if r.low then 0 else 1)) && not r.sync then unwrap_or o x else x)
under_reset node pin r None p x e = same _ x
  where
    same : (c : Bool) (y : ℕ) → y ≡ (if c then y else y)
    same true y = refl
    same false y = refl
under_reset node pin r (Some z) p x e = by r.sync r.low
  where
    and_false : (c : Bool) → (c && false) ≡ false
    and_false true = refl
    and_false false = refl

    and_true : (c : Bool) → (c && true) ≡ c
    and_true true = refl
    and_true false = refl

    by : (sync low : Bool) → under node (if sync then resets.None else resets.Async pin low z) x ≡ (if (p == (if low then 0 else 1)) && not sync then z else x)
    by true low = ap (λ c. if c then z else x) (sym (and_false (p == (if low then 0 else 1))))
    by false true = rw e (ap (λ c. if c then z else x) (sym (and_true (p == 0))))
    by false false = rw e (ap (λ c. if c then z else x) (sym (and_true (p == 1))))

-- what asynchronous resets leave of a map
held_at : (b : Block) (ps : Values) (m : Map) (k : Kept) (n : ℕ) (f : Field) → kept_number k ≡ Some n → slice_get b.fields n ≡ Some f
    → held b ps m k ≡ (if is_asserted b ps f.reset_by && not f.reset_by.sync then unwrap_or (kept_reset k f) (m k) else m k)
held_at b ps m (Val k) n f of here = ap (λ o. option_map_or (λ g. if is_asserted b ps g.reset_by && not g.reset_by.sync then unwrap_or g.reset (m (Val k)) else m (Val k)) o (m (Val k))) (ap (slice_get b.fields) (same_Some k n of) ∙ here)
held_at b ps m (Last k) n f of here = ap (λ o. option_map_or (λ g. if is_asserted b ps g.reset_by && not g.reset_by.sync then 0 else m (Last k)) o (m (Last k))) (ap (slice_get b.fields) (same_Some k n of) ∙ here)
held_at b ps m (Done k) n f of here = ap (λ o. option_map_or (λ g. if is_asserted b ps g.reset_by && not g.reset_by.sync then 0 else m (Done k)) o (m (Done k))) (ap (slice_get b.fields) (same_Some k n of) ∙ here)
held_at b ps m Waited n f of here = cc
held_at b ps m Data n f of here = cc
held_at b ps m Error n f of here = cc

-- A register's reset makes of what it contains, or takes, what asynchronous resets make of a map.
pub under_held : (b : Block) → IsSound b → (p : Plan) → IsPlanOf b p → (net : Net) (pins : List Id) → HasPins b net pins → (a : Inlet) (k : Kept) → Contains (field_kept b) k
    → (v : At) → Settles net v → (n : Now) → Finds b a v n → (items : ItemValues) → AreItemValues b n items → (m : Map) → under v.node (reset_of b p pins k) (m k) ≡ held b n.pins m k
under_held b sound p planned net pins has a k c v s n found items valued m =
    let q = kept_is_of b k c in
    let is : v.node (at pins (signal_place p q.field.reset_by.signal)).0 ≡ reset_pin b n.pins q.field.reset_by = (pin_worth b sound p planned net pins has q.number q.field q.here a).value v s n found items valued in
    ap (λ r. under v.node r (m k)) (reset_is b p pins k q.number q.field q.of q.here)
    ∙ under_reset v.node (at pins (signal_place p q.field.reset_by.signal)) q.field.reset_by (kept_reset k q.field) (reset_pin b n.pins q.field.reset_by) (m k) is
    ∙ sym (held_at b n.pins m k q.number q.field q.of q.here)
