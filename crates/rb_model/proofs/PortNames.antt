-- No two ports and registers of a sound block's module have one name.
use Rattle.std.proofs.Common.{◌≡◌, ℕ, zero, suc, ◌+◌, ◌<◌, ◌≤◌, ◌==◌, Bool, true, false, not, ◌&&◌, if◌then◌else◌, Option, Some, None, List, [], ◌∷◌, ◌++◌, codes, length, slice_get, map, filter, count_by, refl, ap, sym, ◌∙◌, subst, ◌⊎◌, inl, inr, append_assoc, arith}
use Rattle.std.specs.List.{enumerate_from, flat_map}
use Rattle.std.specs.Prelude.{IsTrue}
use Rattle.std.proofs.lemmas.List.{map-append}
use Rattle.std.proofs.lemmas.Option.{slice_get_within, same_Some}
use Rattle.rb_base.specs.declared.ports.Port.{Port}
use Rattle.rb_base.specs.declared.ports.Pin.{Pin}
use Rattle.v_design.specs.WellFormed.{distinct}
use Rattle.rb_model.specs.declared.kinds.RefItem.TheVariants as item
use Rattle.rb_model.specs.declared.block.Block.{Block}
use Rattle.rb_model.specs.declared.block.Field.{Field}
use Rattle.rb_model.specs.declared.block.View.{View}
use Rattle.rb_model.specs.declared.block.Reg.{Reg}
use Rattle.rb_model.specs.declared.block.Signal.{Signal}
use Rattle.std.specs.Option.{option_map_or}
use Rattle.rb_model.specs.Kept.{Kept, Val, Last, Done, Waited, Data, Error, when, is_storage, keeps_last, of_field, field_kept, has_wait, kept, kept_of, kept_pins, register_name, register_width}
use Rattle.rb_model.specs.Ports.{block_ports, ports, input, output, bus_inputs, bus_outputs, signal_name, signal_pins, field_ports, field_pins, field_outlets, view_pins, reg_outlets}
use Rattle.rb_model.specs.Own.{IsOwnView, own_pins, outlet_ports}
use Rattle.rb_model.specs.References.{Each}
use Rattle.rb_model.specs.SoundField.{FieldIsSoundIn}
use Rattle.rb_model.specs.Sound.{IsSound, ViewIsSound, is_path}
use Rattle.rb_model.proofs.Eachs.{Each-append, Each-weaker, Each-both, Each-at, Each-flat_map, Each-from_zero, Each-numbered_all, Each-passing}
use Rattle.rb_model.proofs.Apart.{Name, Apart, Apart-from, Apart-place, Apart-kinds, Apart-flat_map, Apart-filter, map-enumerate_from}
use Rattle.rb_model.proofs.KindWords.{words, Named, OneName, one_name, named_dollar, has_dollar, Rising, Rising-append, Rising-lower, Rising-apart, Rising-within, Within}
use Rattle.rb_model.proofs.FieldNames.{pin_names, port_names, own_names, outlet_names, view_names, reg_names}
use Rattle.rb_model.proofs.OwnViews.{TheOne, one_passes, own_test, one_own, field_pins-own, both_true}
use Rattle.rb_model.proofs.PortLists.{outlets_numbered}

-- a name whose word's number is in the range
abbrev pub Kind : (lo hi : ℕ) (name : Name) → Type 0
Kind lo hi name = (path : Name) × Within lo hi path name

pub kinds_differ : (lo mid mid' hi : ℕ) → mid ≤ mid' → (m n : Name) → Kind lo mid m → Kind mid' hi n → n ≡ m → ⊥
kinds_differ lo mid mid' hi l m n a b e =
    let o : OneName b.1.0 a.1.0 b.0 a.0 = one_name b.1.0 a.1.0 b.0 a.0 n m b.1.1.0 a.1.1.0 e in
    let same : b.1.0 ≡ a.1.0 = o.number in
    let below : a.1.0 < mid = a.1.1.2 in
    let above : mid' ≤ b.1.0 = b.1.1.1 in
    absurd (omega arith)

pub kind_dollar : (lo hi : ℕ) (n : Name) → Kind lo hi n → has_dollar n ≡ true
kind_dollar lo hi n a = named_dollar a.1.0 a.0 n a.1.1.0

wider : (lo hi lo' hi' : ℕ) → lo' ≤ lo → hi ≤ hi' → (ns : List Name) → Each (Kind lo hi) ns → Each (Kind lo' hi') ns
wider lo hi lo' hi' l h ns k = Each-weaker (Kind lo hi) (Kind lo' hi') (λ n a. let x : lo ≤ a.1.0 = a.1.1.1 in let y : a.1.0 < hi = a.1.1.2 in (a.0, (a.1.0, (a.1.1.0, omega arith, omega arith)))) ns k

one_path : (lo hi : ℕ) (p q m n : Name) → Within lo hi p m → Within lo hi q n → n ≡ m → p ≡ q
one_path lo hi p q m n a b e = let o : OneName b.0 a.0 q p = one_name b.0 a.0 q p n m b.1.0 a.1.0 e in sym o.path

-- names of pins and of ports
pub inputs_named : (ps : List Pin) → port_names (map input ps) ≡ pin_names ps
inputs_named [] = refl
inputs_named (p ∷ ps) = ap (λ ns. p.name ∷ ns) (inputs_named ps)

ports_appended : (ps qs : List Port) → port_names (ps ++ qs) ≡ port_names ps ++ port_names qs
ports_appended ps qs = map-append {A = Port} {B = Name} (λ p. p.name) ps qs

pub named-flat_map : {X : Type 0} (f : X → List Port) (xs : List X) → port_names (flat_map f xs) ≡ flat_map (λ x. port_names (f x)) xs
named-flat_map f [] = refl
named-flat_map f (x ∷ xs) = ports_appended (f x) (flat_map f xs) ∙ ap (λ ns. port_names (f x) ++ ns) (named-flat_map f xs)

pub pins-flat_map : {X : Type 0} (f : X → List Pin) (xs : List X) → pin_names (flat_map f xs) ≡ flat_map (λ x. pin_names (f x)) xs
pins-flat_map f [] = refl
pins-flat_map f (x ∷ xs) = map-append {A = Pin} {B = Name} (λ p. p.name) (f x) (flat_map f xs) ∙ ap (λ ns. pin_names (f x) ++ ns) (pins-flat_map f xs)

spread : {X : Type 0} (a b c d e f : List X) → a ++ (b ++ c ++ d ++ e ++ f) ≡ a ++ b ++ c ++ d ++ e ++ f
spread a b c d e f = sym (append_assoc a (b ++ c ++ d ++ e) f) ∙ ap (λ xs. xs ++ f) (sym (append_assoc a (b ++ c ++ d) e)
    ∙ ap (λ xs. xs ++ e) (sym (append_assoc a (b ++ c) d) ∙ ap (λ xs. xs ++ d) (sym (append_assoc a b c))))

six_named : (a b c d e f : List Port) → port_names (a ++ b ++ c ++ d ++ e ++ f) ≡ port_names a ++ port_names b ++ port_names c ++ port_names d ++ port_names e ++ port_names f
six_named a b c d e f =
    ports_appended (a ++ b ++ c ++ d ++ e) f ∙ ap (λ ns. ns ++ port_names f) (ports_appended (a ++ b ++ c ++ d) e ∙ ap (λ ns. ns ++ port_names e) (ports_appended (a ++ b ++ c) d
    ∙ ap (λ ns. ns ++ port_names d) (ports_appended (a ++ b) c ∙ ap (λ ns. ns ++ port_names c) (ports_appended a b))))

-- The bus

bus_apart : Apart (port_names (map input bus_inputs ++ bus_outputs))
bus_apart = Apart-from (port_names (map input bus_inputs ++ bus_outputs)) refl

bus_plain : Each (λ n. has_dollar n ≡ false) (port_names (map input bus_inputs ++ bus_outputs))
bus_plain = (refl, (refl, (refl, (refl, (refl, (refl, (refl, (refl, (refl, (refl, tt))))))))))

-- Signals

signals_named : (root : Bool) (ss : List Signal) → pin_names (signal_pins root ss) ≡ map signal_name (filter (λ s. if root then s.root else not s.root) ss)
signals_named root ss = mapped (filter (λ s. if root then s.root else not s.root) ss)
  where
    mapped : (ts : List Signal) → map (λ p. p.name) (map {A = Signal} {B = Pin} (λ s. record { name = signal_name s; width = s.width }) ts) ≡ map signal_name ts
    mapped [] = refl
    mapped (t ∷ ts) = ap (λ ns. signal_name t ∷ ns) (mapped ts)

signal_kind : (root : Bool) (s : Signal) → (if root then s.root else not s.root) ≡ true → Kind (if root then 0 else 1) (if root then 1 else 2) (signal_name s)
signal_kind true s t = (s.path, (0, (record { word = codes "global$"; known = refl; is = rw t refl }, omega arith, omega arith)))
signal_kind false s t = (s.path, (1, (record { word = codes "signal$"; known = refl; is = by s.root t }, omega arith, omega arith)))
  where
    by : (c : Bool) → not c ≡ true → (if c then codes "global$" else codes "signal$") ++ s.path ≡ codes "signal$" ++ s.path
    by true u = cc
    by false u = refl

mapped_each : {X : Type 0} (key : X → Name) (P : Name → Type 0) (xs : List X) → Each (λ x. P (key x)) xs → Each P (map key xs)
mapped_each key P [] h = tt
mapped_each key P (x ∷ xs) h = (h.0, mapped_each key P xs h.1)

module _ (b : Block) (sound : IsSound b) where
  signals_apart : Apart (map signal_name b.signals)
  signals_apart = Apart-from (map signal_name b.signals) sound.signal_paths

  one_signals : (root : Bool) → Apart (port_names (map input (signal_pins root b.signals)))
  one_signals root = rw (inputs_named (signal_pins root b.signals), signals_named root b.signals) (Apart-filter signal_name (λ s. if root then s.root else not s.root) b.signals signals_apart)

  pub signals_kind : (root : Bool) → Each (Kind (if root then 0 else 1) (if root then 1 else 2)) (port_names (map input (signal_pins root b.signals)))
  signals_kind root =
      let kind : Name → Type 0 = Kind (if root then 0 else 1) (if root then 1 else 2) in
      rw (inputs_named (signal_pins root b.signals), signals_named root b.signals)
      (mapped_each signal_name kind (filter (λ s. if root then s.root else not s.root) b.signals)
      (Each-passing (λ s. kind (signal_name s)) (λ s. if root then s.root else not s.root) b.signals (λ k s e t. signal_kind root s t)))

  -- Fields

  -- the path of a view that stands in no alias, and of one that does
  IsOwnPath : Name → Type 0
  IsOwnPath p = (j : ℕ) × ((v : View) × (slice_get b.views j ≡ Some v) × (v.alias ≡ false) × (v.path ≡ p))

  IsAliasPath : Name → Type 0
  IsAliasPath p = (j : ℕ) × ((v : View) × (slice_get b.views j ≡ Some v) × (v.alias ≡ true) × (v.path ≡ p))

  view_paths_apart : Apart (map (λ v. v.path) b.views)
  view_paths_apart = Apart-from (map (λ v. v.path) b.views) (both_true (distinct (map (λ v. v.path) b.views)) _ sound.view_paths).0

  map_at : {X Y : Type 0} (f : X → Y) (xs : List X) (k : ℕ) (x : X) → slice_get xs k ≡ Some x → slice_get (map f xs) k ≡ Some (f x)
  map_at f [] k x e = cc
  map_at f (y ∷ ys) zero x e = ap (λ z. Some (f z)) (same_Some y x e)
  map_at f (y ∷ ys) (suc k) x e = map_at f ys k x e

  own_not_alias : (p q : Name) → IsOwnPath p → IsAliasPath q → q ≡ p → ⊥
  unfolding IsOwnPath IsAliasPath
  own_not_alias p q a c e =
      let path = λ (v : View). v.path in
      let here : slice_get (map path b.views) a.0 ≡ Some p = map_at path b.views a.0 a.1.0 a.1.1 ∙ ap Some a.1.3 in
      let there : slice_get (map path b.views) c.0 ≡ Some p = map_at path b.views c.0 c.1.0 c.1.1 ∙ ap Some (c.1.3 ∙ e) in
      let place : a.0 ≡ c.0 = Apart-place (map path b.views) a.0 c.0 p view_paths_apart here there in
      let same : a.1.0 ≡ c.1.0 = same_Some a.1.0 c.1.0 (sym a.1.1 ∙ ap (slice_get b.views) place ∙ c.1.1) in
      let not : false ≡ true = sym a.1.2 ∙ ap (λ v. v.alias) same ∙ c.1.2 in
      cc

  record FieldPart (e : ℕ × Field) : Type 0 where
    rising : Rising 2 23 e.1.path (port_names (field_ports b.views e))
    own : IsOwnPath e.1.path

  field_part : (k : ℕ) (f : Field) → slice_get b.fields k ≡ Some f → FieldPart (k, f)
  unfolding IsOwnPath
  field_part k f e =
      let s : FieldIsSoundIn b (k, f) = Each-from_zero (FieldIsSoundIn b) b.fields k f sound.fields e in
      let o : TheOne (λ v. v.field == k && not v.alias) b.views = one_passes (λ v. v.field == k && not v.alias) b.views s.one_view in
      let told : (o.it.field ≡ k) × (o.it.alias ≡ false) = own_test k o.it o.passes in
      let v : ViewIsSound b (o.at, o.it) = Each-from_zero (ViewIsSound b) b.views o.at o.it sound.views o.here in
      let same : v.of.0 ≡ f = same_Some v.of.0 f (sym v.of.1 ∙ ap (slice_get b.fields) told.0 ∙ e) in
      let path : o.it.path ≡ f.path = v.of.2 told.1 ∙ ap (λ g. g.path) same in
      let own : IsOwnView b.views k o.at = record { view = o.it; here = o.here; of = told.0; alone = told.1 } in
      let pins : pin_names (field_pins b.views (k, f)) ≡ pin_names (own_pins f o.it) = ap pin_names (field_pins-own b.views k f o.at own s.one_view) in
      let outs : port_names (map output (field_outlets (k, f))) ≡ port_names (outlet_ports f) = ap port_names (outlets_numbered k f) in
      record {
        rising = rw (ports_appended (map input (field_pins b.views (k, f))) (map output (field_outlets (k, f))), inputs_named (field_pins b.views (k, f)), pins, outs)
            (Rising-append 2 13 23 f.path (pin_names (own_pins f o.it)) (port_names (outlet_ports f)) (own_names f o.it path) (outlet_names f s.alone.shown_in_order));
        own = (o.at, (o.it, o.here, told.1, path));
      }

  -- a name of a field's, and of an alias's pin
  OfField : Name → Type 0
  OfField n = (p : Name) × (Within 2 23 p n × IsOwnPath p)

  OfAlias : Name → Type 0
  OfAlias n = (p : Name) × (Within 5 7 p n × IsAliasPath p)

  field_not_alias : (m n : Name) → OfField m → OfAlias n → n ≡ m → ⊥
  unfolding OfField OfAlias
  field_not_alias m n a c e =
      let o : OneName c.1.0.0 a.1.0.0 c.0 a.0 = one_name c.1.0.0 a.1.0.0 c.0 a.0 n m c.1.0.1.0 a.1.0.1.0 e in own_not_alias a.0 c.0 a.1.1 c.1.1 o.path

  field_names : List Name
  field_names = flat_map (λ e. port_names (field_ports b.views e)) (enumerate_from 0 b.fields)

  fields_apart : Apart field_names
  unfolding field_names
  fields_apart = Apart-flat_map (Within 2 23) (one_path 2 23) (λ e. e.1.path) (λ e. port_names (field_ports b.views e)) (enumerate_from 0 b.fields)
      (rw (map-enumerate_from (λ f. f.path) 0 b.fields) (Apart-from (map (λ f. f.path) b.fields) (both_true (distinct (map (λ f. f.path) b.fields)) _ sound.field_paths).0))
      (Each-numbered_all (λ e. Apart (port_names (field_ports b.views e)) × Each (Within 2 23 e.1.path) (port_names (field_ports b.views e))) b.fields
      (λ k f e. let p : FieldPart (k, f) = field_part k f e in (Rising-apart 2 23 f.path _ p.rising, Rising-within 2 23 f.path _ p.rising)))

  fields_of : Each OfField field_names
  unfolding field_names OfField
  fields_of = Each-flat_map OfField (λ e. port_names (field_ports b.views e)) (enumerate_from 0 b.fields)
      (Each-numbered_all (λ e. Each OfField (port_names (field_ports b.views e))) b.fields
      (λ k f e. let p : FieldPart (k, f) = field_part k f e in Each-weaker (Within 2 23 f.path) OfField (λ n w. (f.path, (w, p.own))) (port_names (field_ports b.views (k, f))) (Rising-within 2 23 f.path _ p.rising)))

  -- Aliases

  alias_names : List Name
  alias_names = flat_map (λ v. pin_names (view_pins v)) (filter (λ v. v.alias) b.views)

  alias_apart : Apart alias_names
  unfolding alias_names
  alias_apart = Apart-flat_map (Within 5 7) (one_path 5 7) (λ v. v.path) (λ v. pin_names (view_pins v)) (filter (λ v. v.alias) b.views)
      (Apart-filter (λ v. v.path) (λ v. v.alias) b.views view_paths_apart)
      (Each-passing (λ v. Apart (pin_names (view_pins v)) × Each (Within 5 7 v.path) (pin_names (view_pins v))) (λ v. v.alias) b.views
      (λ k v e t. (Rising-apart 5 7 v.path _ (view_names v), Rising-within 5 7 v.path _ (view_names v))))

  alias_of : Each OfAlias alias_names
  unfolding alias_names OfAlias IsAliasPath
  alias_of = Each-flat_map OfAlias (λ v. pin_names (view_pins v)) (filter (λ v. v.alias) b.views)
      (Each-passing (λ v. Each OfAlias (pin_names (view_pins v))) (λ v. v.alias) b.views
      (λ k v e t. Each-weaker (Within 5 7 v.path) OfAlias (λ n w. (v.path, (w, (k, (v, e, t, refl))))) (pin_names (view_pins v)) (Rising-within 5 7 v.path _ (view_names v))))

  -- Registers

  reg_outlet_names : List Name
  reg_outlet_names = flat_map (λ e. port_names (map output (reg_outlets e))) (enumerate_from 0 b.regs)

  regs_apart : Apart reg_outlet_names
  unfolding reg_outlet_names
  regs_apart = Apart-flat_map (Within 23 25) (one_path 23 25) (λ e. e.1.path) (λ e. port_names (map output (reg_outlets e))) (enumerate_from 0 b.regs)
      (rw (map-enumerate_from (λ r. r.path) 0 b.regs) (Apart-from (map (λ r. r.path) b.regs) (both_true (distinct (map (λ r. r.path) b.regs)) _ sound.reg_paths).0))
      (Each-numbered_all (λ e. Apart (port_names (map output (reg_outlets e))) × Each (Within 23 25 e.1.path) (port_names (map output (reg_outlets e)))) b.regs
      (λ k r e. (Rising-apart 23 25 r.path _ (reg_names k r), Rising-within 23 25 r.path _ (reg_names k r))))

  regs_kind : Each (Kind 23 25) reg_outlet_names
  unfolding reg_outlet_names
  regs_kind = Each-flat_map (Kind 23 25) (λ e. port_names (map output (reg_outlets e))) (enumerate_from 0 b.regs)
      (Each-numbered_all (λ e. Each (Kind 23 25) (port_names (map output (reg_outlets e)))) b.regs
      (λ k r e. Each-weaker (Within 23 25 r.path) (Kind 23 25) (λ n w. (r.path, w)) (port_names (map output (reg_outlets (k, r)))) (Rising-within 23 25 r.path _ (reg_names k r))))

  -- All ports

  ports_named : (bus : List Port) → port_names (bus ++ block_ports b) ≡ port_names bus ++ port_names (map input (signal_pins true b.signals)) ++ port_names (map input (signal_pins false b.signals))
      ++ field_names ++ alias_names ++ reg_outlet_names
  unfolding field_names alias_names reg_outlet_names
  ports_named bus =
      let root = map input (signal_pins true b.signals) in
      let tree = map input (signal_pins false b.signals) in
      let fields = flat_map (field_ports b.views) (enumerate_from 0 b.fields) in
      let aliases = map input (flat_map view_pins (filter (λ v. v.alias) b.views)) in
      let regs = map output (flat_map reg_outlets (enumerate_from 0 b.regs)) in
      let a : port_names aliases ≡ flat_map (λ v. pin_names (view_pins v)) (filter (λ v. v.alias) b.views) = inputs_named (flat_map view_pins (filter (λ v. v.alias) b.views)) ∙ pins-flat_map view_pins (filter (λ v. v.alias) b.views) in
      let f : port_names fields ≡ flat_map (λ e. port_names (field_ports b.views e)) (enumerate_from 0 b.fields) = named-flat_map (field_ports b.views) (enumerate_from 0 b.fields) in
      let r : port_names regs ≡ flat_map (λ e. port_names (map output (reg_outlets e))) (enumerate_from 0 b.regs) = ap port_names (mapped_flat reg_outlets (enumerate_from 0 b.regs)) ∙ named-flat_map (λ e. map output (reg_outlets e)) (enumerate_from 0 b.regs) in
      ap port_names (spread bus root tree fields aliases regs)
      ∙ six_named bus root tree fields aliases regs
      ∙ ap (λ ns. port_names bus ++ port_names root ++ port_names tree ++ ns ++ port_names aliases ++ port_names regs) f
      ∙ ap (λ ns. port_names bus ++ port_names root ++ port_names tree ++ field_names ++ ns ++ port_names regs) a
      ∙ ap (λ ns. port_names bus ++ port_names root ++ port_names tree ++ field_names ++ alias_names ++ ns) r
    where
      mapped_flat : (g : ℕ × Reg → List _) (es : List (ℕ × Reg)) → map output (flat_map g es) ≡ flat_map (λ e. map output (g e)) es
      mapped_flat g [] = refl
      mapped_flat g (e ∷ es) = map-append output (g e) (flat_map g es) ∙ ap (λ ps. map output (g e) ++ ps) (mapped_flat g es)

  -- what is known of the names so far
  record PartApart (lo hi : ℕ) (ns : List Name) : Type 0 where
    apart : Apart ns
    kinds : Each (λ n. (has_dollar n ≡ false) ⊎ Kind lo hi n) ns

  PartApart-append : (lo mid hi : ℕ) (ms ns : List Name) → lo ≤ mid → mid ≤ hi → PartApart lo mid ms → Apart ns → Each (Kind mid hi) ns → PartApart lo hi (ms ++ ns)
  PartApart-append lo mid hi ms ns l h p a k = record {
    apart = Apart-kinds (λ n. (has_dollar n ≡ false) ⊎ Kind lo mid n) (Kind mid hi) differ ms ns p.apart a p.kinds k;
    kinds = Each-append (λ n. (has_dollar n ≡ false) ⊎ Kind lo hi n) ms ns
        (Each-weaker (λ n. (has_dollar n ≡ false) ⊎ Kind lo mid n) (λ n. (has_dollar n ≡ false) ⊎ Kind lo hi n) weaker ms p.kinds)
        (Each-weaker (Kind mid hi) (λ n. (has_dollar n ≡ false) ⊎ Kind lo hi n) (λ n w. inr (w.0, (w.1.0, (w.1.1.0, (let x : mid ≤ w.1.0 = w.1.1.1 in omega arith), w.1.1.2)))) ns k);
  }
    where
      differ : (m n : Name) → (has_dollar m ≡ false) ⊎ Kind lo mid m → Kind mid hi n → n ≡ m → ⊥
      differ m n (inl f) w e = let t : has_dollar n ≡ true = kind_dollar mid hi n w in let u : has_dollar m ≡ true = sym (ap has_dollar e) ∙ t in cc
      differ m n (inr v) w e = kinds_differ lo mid mid hi (omega arith) m n v w e

      weaker : (n : Name) → (has_dollar n ≡ false) ⊎ Kind lo mid n → (has_dollar n ≡ false) ⊎ Kind lo hi n
      weaker n (inl f) = inl f
      weaker n (inr v) = inr (v.0, (v.1.0, (v.1.1.0, v.1.1.1, (let x : v.1.0 < mid = v.1.1.2 in omega arith))))

  -- behind the ports of any bus, whose names have no `$`
  ports_apart : (first : List Port) → Apart (port_names first) → Each (λ n. has_dollar n ≡ false) (port_names first) → PartApart 0 25 (port_names (first ++ block_ports b))
  unfolding OfField OfAlias
  ports_apart first bus_apart bus_plain =
      let bus = port_names first in
      let root = port_names (map input (signal_pins true b.signals)) in
      let tree = port_names (map input (signal_pins false b.signals)) in
      let p0 : PartApart 0 0 bus = record { apart = bus_apart; kinds = Each-weaker (λ n. has_dollar n ≡ false) (λ n. (has_dollar n ≡ false) ⊎ Kind 0 0 n) (λ n f. inl f) bus bus_plain } in
      let p1 : PartApart 0 1 (bus ++ root) = PartApart-append 0 0 1 bus root (omega arith) (omega arith) p0 (one_signals true) (signals_kind true) in
      let p2 : PartApart 0 2 (bus ++ root ++ tree) = PartApart-append 0 1 2 (bus ++ root) tree (omega arith) (omega arith) p1 (one_signals false) (signals_kind false) in
      let fa : Apart (field_names ++ alias_names) = Apart-kinds OfField OfAlias field_not_alias field_names alias_names fields_apart alias_apart fields_of alias_of in
      let fk : Each (Kind 2 23) (field_names ++ alias_names) = Each-append (Kind 2 23) field_names alias_names
      (Each-weaker OfField (Kind 2 23) (λ n o. (o.0, o.1.0)) field_names fields_of)
      (Each-weaker OfAlias (Kind 2 23) (λ n o. (o.0, (o.1.0.0, (o.1.0.1.0, (let x : 5 ≤ o.1.0.0 = o.1.0.1.1 in omega arith), (let y : o.1.0.0 < 7 = o.1.0.1.2 in omega arith))))) alias_names alias_of) in
      let p3 : PartApart 0 23 (bus ++ root ++ tree ++ (field_names ++ alias_names)) = PartApart-append 0 2 23 (bus ++ root ++ tree) (field_names ++ alias_names) (omega arith) (omega arith) p2 fa fk in
      let p4 : PartApart 0 25 (bus ++ root ++ tree ++ (field_names ++ alias_names) ++ reg_outlet_names) = PartApart-append 0 23 25 (bus ++ root ++ tree ++ (field_names ++ alias_names)) reg_outlet_names (omega arith) (omega arith) p3 regs_apart regs_kind in
      let grouped : (bus ++ root ++ tree) ++ (field_names ++ alias_names) ++ reg_outlet_names ≡ port_names (first ++ block_ports b) =
      ap (λ ns. ns ++ reg_outlet_names) (sym (append_assoc (bus ++ root ++ tree) field_names alias_names)) ∙ sym (ports_named first) in
      subst (λ ns. PartApart 0 25 ns) grouped p4

  pub port_names_apart : Apart (port_names (ports b))
  port_names_apart = (ports_apart (map input bus_inputs ++ bus_outputs) bus_apart bus_plain).apart

  -- Kept values

  kept_names : List Name
  kept_names = map (register_name b) (kept b)

  field_kept_names : (k : ℕ) (f : Field) → slice_get b.fields k ≡ Some f → Rising 25 28 f.path (map (register_name b) (kept_of (k, f)))
  field_kept_names k f e = by (is_storage f.class) (keeps_last f.latch) f.once
    where
      path : of_field b k [] (λ g. g.path) ≡ f.path
      path = ap (λ o. option_map_or (λ g. g.path) o []) e

      done : (d : Bool) → Rising 27 28 f.path (map (register_name b) (when d (Done k)))
      done true = (27, (record { word = codes "done$"; known = refl; is = ap (λ p. codes "done$" ++ p) path }, omega arith, omega arith))
      done false = omega arith

      last : (l d : Bool) → Rising 26 28 f.path (map (register_name b) (when l (Last k) ++ when d (Done k)))
      last true d = (26, (record { word = codes "last$"; known = refl; is = ap (λ p. codes "last$" ++ p) path }, omega arith, done d))
      last false d = Rising-lower 26 27 28 f.path (map (register_name b) (when d (Done k))) (omega arith) (done d)

      by : (v l d : Bool) → Rising 25 28 f.path (map (register_name b) (when v (Val k) ++ when l (Last k) ++ when d (Done k)))
      by true l d = (25, (record { word = codes "val$"; known = refl; is = ap (λ p. codes "val$" ++ p) path }, omega arith, last l d))
      by false l d = Rising-lower 25 26 28 f.path (map (register_name b) (when l (Last k) ++ when d (Done k))) (omega arith) (last l d)

  fields_kept : List Name
  fields_kept = flat_map (λ e. map (register_name b) (kept_of e)) (enumerate_from 0 b.fields)

  fields_kept_apart : Apart fields_kept
  unfolding fields_kept
  fields_kept_apart = Apart-flat_map (Within 25 28) (one_path 25 28) (λ e. e.1.path) (λ e. map (register_name b) (kept_of e)) (enumerate_from 0 b.fields)
      (rw (map-enumerate_from (λ f. f.path) 0 b.fields) (Apart-from (map (λ f. f.path) b.fields) (both_true (distinct (map (λ f. f.path) b.fields)) _ sound.field_paths).0))
      (Each-numbered_all (λ e. Apart (map (register_name b) (kept_of e)) × Each (Within 25 28 e.1.path) (map (register_name b) (kept_of e))) b.fields
      (λ k f e. (Rising-apart 25 28 f.path _ (field_kept_names k f e), Rising-within 25 28 f.path _ (field_kept_names k f e))))

  fields_kept_kind : Each (Kind 25 28) fields_kept
  unfolding fields_kept
  fields_kept_kind = Each-flat_map (Kind 25 28) (λ e. map (register_name b) (kept_of e)) (enumerate_from 0 b.fields)
      (Each-numbered_all (λ e. Each (Kind 25 28) (map (register_name b) (kept_of e))) b.fields
      (λ k f e. Each-weaker (Within 25 28 f.path) (Kind 25 28) (λ n w. (f.path, w)) (map (register_name b) (kept_of (k, f))) (Rising-within 25 28 f.path _ (field_kept_names k f e))))

  waits : List Kept
  waits = if has_wait b then Waited ∷ Data ∷ Error ∷ [] else []

  wait_names : Apart (map (register_name b) waits) × Each (Kind 28 29) (map (register_name b) waits)
  unfolding waits
  wait_names = by (has_wait b)
    where
      bus : (p n : Name) → n ≡ codes "apb$" ++ p → Kind 28 29 n
      bus p n e = (p, (28, (record { word = codes "apb$"; known = refl; is = e }, omega arith, omega arith)))

      by : (c : Bool) → Apart (map (register_name b) (if c then Waited ∷ Data ∷ Error ∷ [] else [])) × Each (Kind 28 29) (map (register_name b) (if c then Waited ∷ Data ∷ Error ∷ [] else []))
      by true = (Apart-from (codes "apb$wait" ∷ codes "apb$data" ∷ codes "apb$error" ∷ []) refl, (bus (codes "wait") _ refl, (bus (codes "data") _ refl, (bus (codes "error") _ refl, tt))))
      by false = (tt, tt)

  fields_named : map (register_name b) (field_kept b) ≡ fields_kept
  unfolding fields_kept
  fields_named = flat (enumerate_from 0 b.fields)
    where
      flat : (es : List (ℕ × Field)) → map (register_name b) (flat_map kept_of es) ≡ flat_map (λ e. map (register_name b) (kept_of e)) es
      flat [] = refl
      flat (e ∷ es) = map-append (register_name b) (kept_of e) (flat_map kept_of es) ∙ ap (λ ns. map (register_name b) (kept_of e) ++ ns) (flat es)

  kept_named : map (λ p. p.name) (kept_pins b) ≡ map (register_name b) (field_kept b) ++ map (register_name b) waits
  unfolding waits
  kept_named = pins (kept b) ∙ map-append (register_name b) (field_kept b) (if has_wait b then Waited ∷ Data ∷ Error ∷ [] else [])
    where
      pins : (ks : List Kept) → map (λ p. p.name) (map {A = Kept} {B = Pin} (λ k. record { name = register_name b k; width = register_width b k }) ks) ≡ map (register_name b) ks
      pins [] = refl
      pins (k ∷ ks) = ap (λ ns. register_name b k ∷ ns) (pins ks)

  -- the ports behind any bus, the registers of the fields and those of the bus together
  pub names_behind : (bus : List Port) (own : List Name) → Apart (port_names bus) → Each (λ n. has_dollar n ≡ false) (port_names bus) → Apart own → Each (Kind 28 30) own
      → Apart (port_names (bus ++ block_ports b) ++ map (register_name b) (field_kept b) ++ own)
  names_behind bus own apart plain own_apart own_kind =
      let ns = port_names (bus ++ block_ports b) in
      let p : PartApart 0 28 (ns ++ fields_kept) = PartApart-append 0 25 28 ns fields_kept (omega arith) (omega arith) (ports_apart bus apart plain) fields_kept_apart fields_kept_kind in
      let q : PartApart 0 30 (ns ++ fields_kept ++ own) = PartApart-append 0 28 30 (ns ++ fields_kept) own (omega arith) (omega arith) p own_apart own_kind in
      subst (λ ms. Apart (ns ++ ms ++ own)) (sym fields_named) q.apart

  -- ports and registers together
  pub all_names_apart : Apart (port_names (ports b) ++ map (λ p. p.name) (kept_pins b))
  all_names_apart =
      let w = wait_names in
      let own = map (register_name b) waits in
      let names = port_names (ports b) in
      subst (λ ns. Apart ns) (append_assoc names (map (register_name b) (field_kept b)) own ∙ ap (λ ns. names ++ ns) (sym kept_named))
      (names_behind (map input bus_inputs ++ bus_outputs) own bus_apart bus_plain w.0 (wider 28 29 28 30 (omega arith) (omega arith) own w.1))
