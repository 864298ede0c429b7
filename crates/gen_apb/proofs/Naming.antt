-- The names of a block's ports and registers differ.
use Rattle.std.proofs.Common.{◌≡◌, ℕ, ◌+◌, ◌<◌, true, false, ◌||◌, if◌then◌else◌, Some, None, List, [], ◌∷◌, ◌++◌, codes, length, map, filter, slice_get, refl, sym, ap, ◌∙◌, subst, arith}
use Rattle.std.specs.Prelude.{Contains}
use Rattle.std.specs.List.{list_any}
use Rattle.std.specs.Str.{bytes_eq}
use Rattle.std.proofs.lemmas.Option.{get_or_from_slice_get, same_Some, slice_get_read, slice_get_within}
use Rattle.plain_lemmas.proofs.Lists.{get-behind as behind, get-front_of as front, get-map_at as mapped_at, map-map as mapped}
use Rattle.rb_base.specs.declared.ports.Dir.TheVariants.{Out}
use Rattle.rb_base.specs.declared.ports.Pin.{Pin}
use Rattle.rb_base.specs.declared.ports.Port.{Port}
use Rattle.v_design.specs.Design.{is_output, outputs_among, port_pin}
use Rattle.v_design.specs.WellFormed.{distinct}
use Rattle.rtl_net.specs.Names.{Lacks}
use Rattle.rb_model.specs.declared.block.Block.{Block}
use Rattle.rb_model.specs.Kept.{Kept, Waited, Data, Error, has_wait, kept, kept_pins, register_name, field_kept, kept_pin}
use Rattle.rb_model.specs.Ports.{block_ports, bus_inputs, bus_outputs, input, outlets, pin, ports}
use Rattle.rb_model.specs.References.{Each}
use Rattle.rb_model.specs.Sound.{IsSound}
use Rattle.rb_model.proofs.Apart.{Apart, Apart-filter, Apart-from, Apart-place, Name, bytes_eq-not, distinct-from}
use Rattle.rb_model.proofs.Eachs.{Each-append}
use Rattle.rb_model.proofs.FieldNames.{pin_names}
use Rattle.rb_model.proofs.InputPins.{output_pins_are}
use Rattle.gen_scene.specs.Bases.{kept_number}
use Rattle.gen_scene.proofs.ResetPins.{kept_is_of}
use Rattle.gen_ports.specs.Laid.{CanLay, IsPort}
use Rattle.gen_ports.proofs.Laying.{port_names}
use Rattle.gen_ports.proofs.Portals.{block_ports_are, bus_port}
use Rattle.gen_front.proofs.Names.{apart_left, behind_lacks}
use Rattle.gen_core.specs.Ties.{outlet_pin}
use Rattle.gen_apb.specs.Built.{bus_shown}

-- all names of the block's module
abbrev pub AllApart : Block → Type 0
AllApart b = distinct (port_names (ports b) ++ pin_names (kept_pins b)) ≡ true

pub ports_apart : (b : Block) → AllApart b → Apart (port_names (ports b))
ports_apart b h = apart_left (port_names (ports b)) (pin_names (kept_pins b)) (Apart-from (port_names (ports b) ++ pin_names (kept_pins b)) h)

-- Ports

bus_are : Each IsPort (map input bus_inputs ++ bus_outputs)
bus_are = (bus_port (input (pin (codes "PCLK") 1)) refl (omega arith) (omega arith) (λ t. refl), (bus_port (input (pin (codes "PRESETn") 1)) refl (omega arith) (omega arith) (λ t. refl), (bus_port (input (pin (codes "PADDR") 32)) refl (omega arith) (omega arith) (λ t. cc t), (bus_port (input (pin (codes "PSEL") 1)) refl (omega arith) (omega arith) (λ t. refl), (bus_port (input (pin (codes "PENABLE") 1)) refl (omega arith) (omega arith) (λ t. refl), (bus_port (input (pin (codes "PWRITE") 1)) refl (omega arith) (omega arith) (λ t. refl), (bus_port (input (pin (codes "PWDATA") 32)) refl (omega arith) (omega arith) (λ t. cc t), (bus_port (record { dir = Out; name = codes "PREADY"; width = 1 }) refl (omega arith) (omega arith) (λ t. refl), (bus_port (record { dir = Out; name = codes "PRDATA"; width = 32 }) refl (omega arith) (omega arith) (λ t. cc t), (bus_port (record { dir = Out; name = codes "PSLVERR"; width = 1 }) refl (omega arith) (omega arith) (λ t. refl), tt))))))))))

pub can_lay : (b : Block) → IsSound b → AllApart b → CanLay (ports b)
can_lay b sound h = record {
  first = (_, refl);
  each = Each-append IsPort (map input bus_inputs ++ bus_outputs) (block_ports b) bus_are (block_ports_are b sound);
  apart = distinct-from (port_names (ports b)) (ports_apart b h);
}

-- the place of an element
pub contains_at : {X : Type 0} (xs : List X) (x : X) (c : Contains xs x) → slice_get xs c.0 ≡ Some x
contains_at xs x (j, low, is) = slice_get_read xs (length xs) j x refl low (sym is)

-- no port has the name of a register
pub port_names_lack : (b : Block) → AllApart b → (k : Kept) → Contains (kept b) k → Lacks (port_names (ports b)) (register_name b k)
port_names_lack b h k c =
    behind_lacks (port_names (ports b)) (pin_names (kept_pins b)) c.0 (register_name b k) (Apart-from (port_names (ports b) ++ pin_names (kept_pins b)) h)
    (mapped_at (λ (p : Pin). p.name) (kept_pins b) c.0 (kept_pin b k) (mapped_at (kept_pin b) (kept b) c.0 k (contains_at (kept b) k c)))

-- what a field keeps is kept
pub kept_of_fields : (b : Block) (k : Kept) → Contains (field_kept b) k → Contains (kept b) k
kept_of_fields b k c =
    let there : slice_get (kept b) c.0 ≡ Some k = front (field_kept b) (if has_wait b then Waited ∷ Data ∷ Error ∷ [] else []) k c.0 (contains_at (field_kept b) k c) in
    (c.0, slice_get_within (kept b) c.0 k there, get_or_from_slice_get (kept b) c.0 k k there)

-- the outlets have other names than the bus's outputs
pub record OutletsApart (b : Block) : Type 0 where
  pub ready : Each (λ q. bytes_eq (codes "PREADY") q.name ≡ false) (map outlet_pin (outlets b))
  pub answered : Each (λ q. bytes_eq (codes "PRDATA") q.name ≡ false) (map outlet_pin (outlets b))
  pub failed : Each (λ q. bytes_eq (codes "PSLVERR") q.name ≡ false) (map outlet_pin (outlets b))

differ_each : (name : Name) (ps : List Pin) → Each (λ m. m ≡ name → ⊥) (pin_names ps) → Each (λ q. bytes_eq name q.name ≡ false) ps
differ_each name [] h = tt
differ_each name (p ∷ ps) h = (bytes_eq-not name p.name (λ e. h.0 (sym e)), differ_each name ps h.1)

pub outlets_apart : (b : Block) → AllApart b → OutletsApart b
outlets_apart b h =
    let shown : Apart (map (λ p. p.name) (filter is_output (ports b))) = Apart-filter (λ p. p.name) is_output (ports b) (ports_apart b h) in
    let pins : Apart (pin_names (outputs_among (ports b))) = subst Apart (sym (mapped (λ (p : Pin). p.name) port_pin (filter is_output (ports b)))) shown in
    let listed : Apart (pin_names (bus_shown ++ map outlet_pin (outlets b))) = subst (λ ps. Apart (pin_names ps)) (output_pins_are b) pins in
    record {
      ready = differ_each (codes "PREADY") (map outlet_pin (outlets b)) listed.0.1.1;
      answered = differ_each (codes "PRDATA") (map outlet_pin (outlets b)) listed.1.0.1;
      failed = differ_each (codes "PSLVERR") (map outlet_pin (outlets b)) listed.1.1.0;
    }

-- Registers

name_at : (b : Block) (k : Kept) (j : ℕ) → slice_get (kept b) j ≡ Some k → slice_get (port_names (ports b) ++ pin_names (kept_pins b)) (length (port_names (ports b)) + j) ≡ Some (register_name b k)
name_at b k j here = behind (port_names (ports b)) (pin_names (kept_pins b)) j ∙ mapped_at (λ (p : Pin). p.name) (kept_pins b) j (kept_pin b k) (mapped_at (kept_pin b) (kept b) j k here)

pub one_kept : (b : Block) → AllApart b → (k q : Kept) → Contains (kept b) k → Contains (kept b) q → register_name b k ≡ register_name b q → k ≡ q
one_kept b h k q ck cq e =
    let all = port_names (ports b) ++ pin_names (kept_pins b) in
    let start = length (port_names (ports b)) in
    let at_k = contains_at (kept b) k ck in
    let at_q = contains_at (kept b) q cq in
    let same : start + ck.0 ≡ start + cq.0 = Apart-place all (start + ck.0) (start + cq.0) (register_name b q) (Apart-from all h) (name_at b k ck.0 at_k ∙ ap Some e) (name_at b q cq.0 at_q) in
    let z : ck.0 ≡ cq.0 = omega (arith, same) in
    same_Some k q (sym at_k ∙ ap (slice_get (kept b)) z ∙ at_q)

-- a register is none of the others
pub lacks_kept : (b : Block) → AllApart b → (ks : List Kept) (k : Kept) → Contains (kept b) k → Each (λ q. Contains (kept b) q × (k ≡ q → ⊥)) ks → Lacks (map (λ q. register_name b q) ks) (register_name b k)
lacks_kept b h [] k c all = refl
lacks_kept b h (q ∷ ks) k c all =
    let f : bytes_eq (register_name b k) (register_name b q) ≡ false = bytes_eq-not (register_name b k) (register_name b q) (λ e. all.0.1 (one_kept b h k q c all.0.0 e)) in
    ap (λ x. x || list_any (bytes_eq (register_name b k)) (map (λ q. register_name b q) ks)) f ∙ lacks_kept b h ks k c all.1

-- no port has a register's name
pub port_lacks : (b : Block) → AllApart b → (ks : List Kept) (i : ℕ) (p : Port) → slice_get (ports b) i ≡ Some p → Each (λ q. Contains (kept b) q) ks → Lacks (map (λ q. register_name b q) ks) p.name
port_lacks b h [] i p here all = refl
port_lacks b h (q ∷ ks) i p here all =
    let names = port_names (ports b) ++ pin_names (kept_pins b) in
    let start = length (port_names (ports b)) in
    let at_q = contains_at (kept b) q all.0 in
    let at_p : slice_get names i ≡ Some p.name = front (port_names (ports b)) (pin_names (kept_pins b)) p.name i (mapped_at (λ (r : Port). r.name) (ports b) i p here) in
    let low : i < length (port_names (ports b)) = slice_get_within (port_names (ports b)) i p.name (mapped_at (λ (r : Port). r.name) (ports b) i p here) in
    let f : bytes_eq p.name (register_name b q) ≡ false = bytes_eq-not p.name (register_name b q)
    (λ e. let z : i ≡ start + all.0.0 = Apart-place names i (start + all.0.0) (register_name b q) (Apart-from names h) (at_p ∙ ap Some e) (name_at b q all.0.0 at_q) in absurd (omega (arith, z, low))) in
    ap (λ x. x || list_any (bytes_eq p.name) (map (λ q. register_name b q) ks)) f ∙ port_lacks b h ks i p here all.1

-- what a field keeps is none of the bus's
pub not_bus : (b : Block) (k : Kept) → Contains (field_kept b) k → kept_number k ≡ None → ⊥
not_bus b k c e = let q = kept_is_of b k c in let z = sym q.of ∙ e in cc z
