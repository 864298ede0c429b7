-- The outputs' names are not those of registers.
use Rattle.std.proofs.Common.{◌≡◌, ℕ, Bool, true, false, ◌||◌, if◌then◌else◌, List, [], ◌∷◌, ◌++◌, map, filter, refl, sym, ap, ◌∙◌, subst}
use Rattle.std.specs.Prelude.{Contains}
use Rattle.std.specs.Str.{bytes_eq}
use Rattle.std.specs.List.{list_any}
use Rattle.std.proofs.lemmas.List.{map-append}
use Rattle.rb_base.specs.declared.ports.Pin.{Pin}
use Rattle.rb_base.specs.declared.ports.Port.{Port}
use Rattle.v_design.specs.Design.{is_output, outputs_among, port_pin}
use Rattle.v_design.specs.WellFormed.{distinct}
use Rattle.rtl_net.specs.Names.{Lacks}
use Rattle.rtl_net.specs.Net.{Net, registers_of}
use Rattle.rtl_net.specs.Ports.{IsFree, has_room}
use Rattle.rb_model.specs.declared.block.Block.{Block}
use Rattle.rb_model.specs.Kept.{Kept, Waited, Data, Error, has_wait, kept_pins, field_kept, kept_pin}
use Rattle.rb_model.specs.Ports.{Outlet, outlets, ports}
use Rattle.rb_model.specs.References.{Each}
use Rattle.rb_model.proofs.Apart.{Apart, Apart-from, Each-filter, Name, bytes_eq-not}
use Rattle.rb_model.proofs.Eachs.{Each-left, Each-map, Each-right}
use Rattle.rb_model.proofs.InputPins.{bus_shown, outlet_pin, output_pins_are}
use Rattle.gen_core.proofs.Joining.{contained}

lacks_from : (ms : List Name) (n : Name) → Each (λ m. m ≡ n → ⊥) ms → Lacks ms n
lacks_from [] n h = refl
lacks_from (m ∷ ms) n h = ap (λ c. c || list_any (bytes_eq n) ms) (bytes_eq-not n m (λ e. h.0 (sym e))) ∙ lacks_from ms n h.1

lacks_both : (ms ns : List Name) (n : Name) → Lacks ms n → Lacks ns n → Lacks (ms ++ ns) n
lacks_both [] ns n p q = q
lacks_both (m ∷ ms) ns n p q = by (bytes_eq n m) refl p (λ h. lacks_both ms ns n h q)
  where
    by : (c : Bool) → bytes_eq n m ≡ c → (c || list_any (bytes_eq n) ms) ≡ false → (Lacks ms n → Lacks (ms ++ ns) n) → Lacks (m ∷ ms ++ ns) n
    by true e h more = cc
    by false e h more = ap (λ c. c || list_any (bytes_eq n) (ms ++ ns)) e ∙ more h

-- names in front are not among those behind them
each_lacks : (xs ys zs : List Name) → Apart (xs ++ (ys ++ zs)) → Each (Lacks ys) xs
each_lacks [] ys zs h = tt
each_lacks (x ∷ xs) ys zs h = (lacks_from ys x (Each-left (λ m. m ≡ x → ⊥) ys zs (Each-right (λ m. m ≡ x → ⊥) xs (ys ++ zs) h.0)), each_lacks xs ys zs h.1)

-- what holds of what is made of elements
each_made : {X Y : Type 0} (P : Y → Type 0) (f : X → Y) (xs : List X) → Each P (map f xs) → Each (λ x. P (f x)) xs
each_made P f [] h = tt
each_made P f (x ∷ xs) h = (h.0, each_made P f xs h.1)

abbrev pub field_names : Block → List Name
field_names b = map (λ p. p.name) (map (kept_pin b) (field_kept b))

names_behind : (b : Block) → map (λ p. p.name) (kept_pins b) ≡ field_names b ++ map (λ p. p.name) (map (kept_pin b) (if has_wait b then Waited ∷ Data ∷ Error ∷ [] else []))
names_behind b =
    let rest : List Kept = if has_wait b then Waited ∷ Data ∷ Error ∷ [] else [] in
    ap (map (λ (p : Pin). p.name)) (map-append (kept_pin b) (field_kept b) rest) ∙ map-append (λ (p : Pin). p.name) (map (kept_pin b) (field_kept b)) (map (kept_pin b) rest)

pub output_lacks : (b : Block) → distinct (map (λ p. p.name) (ports b) ++ map (λ p. p.name) (kept_pins b)) ≡ true → Each (λ o. Lacks (field_names b) o.name) (outlets b)
output_lacks b apart =
    let fronts : List Name = map (λ p. p.name) (ports b) in
    let rest : List Name = map (λ p. p.name) (map (kept_pin b) (if has_wait b then Waited ∷ Data ∷ Error ∷ [] else [])) in
    let all : Apart (fronts ++ (field_names b ++ rest)) = subst (λ ns. Apart (fronts ++ ns)) (names_behind b) (Apart-from (fronts ++ map (λ p. p.name) (kept_pins b)) apart) in
    let named : Each (λ (p : Port). Lacks (field_names b) p.name) (ports b) = each_made (Lacks (field_names b)) (λ (p : Port). p.name) (ports b) (each_lacks fronts (field_names b) rest all) in
    let outs : Each (λ (p : Port). Lacks (field_names b) p.name) (filter is_output (ports b)) = Each-filter (λ (p : Port). Lacks (field_names b) p.name) is_output (ports b) named in
    let pins : Each (λ (p : Pin). Lacks (field_names b) p.name) (outputs_among (ports b)) = Each-map (λ (p : Pin). Lacks (field_names b) p.name) port_pin (filter is_output (ports b)) outs in
    let listed : Each (λ (p : Pin). Lacks (field_names b) p.name) (bus_shown ++ map outlet_pin (outlets b)) = subst (Each (λ (p : Pin). Lacks (field_names b) p.name)) (output_pins_are b) pins in
    each_made (λ (p : Pin). Lacks (field_names b) p.name) outlet_pin (outlets b) (Each-right (λ (p : Pin). Lacks (field_names b) p.name) bus_shown (map outlet_pin (outlets b)) listed)

-- outputs that were free are so where the registers of what the fields keep are added
pub still_free : (b : Block) (old new : Net) (o : Outlet) → distinct (map (λ p. p.name) (ports b) ++ map (λ p. p.name) (kept_pins b)) ≡ true
    → new.seats ≡ old.seats → registers_of new.nodes ≡ registers_of old.nodes ++ map (kept_pin b) (field_kept b) → Contains (outlets b) o → IsFree old o.name o.width → IsFree new o.name o.width
still_free b old new o apart seats registers c h = record {
  seats = ap (λ ss. has_room ss o.name o.width) seats ∙ h.seats;
  registers =
      subst (λ rs. Lacks rs o.name) (sym (ap (map (λ (p : Pin). p.name)) registers ∙ map-append (λ (p : Pin). p.name) (registers_of old.nodes) (map (kept_pin b) (field_kept b))))
      (lacks_both (map (λ p. p.name) (registers_of old.nodes)) (field_names b) o.name h.registers (contained (λ o. Lacks (field_names b) o.name) (outlets b) o (output_lacks b apart) c));
}

-- and where no register is added
pub same_free : (old new : Net) (name : Name) (w : ℕ) → new.seats ≡ old.seats → registers_of new.nodes ≡ registers_of old.nodes → IsFree old name w → IsFree new name w
same_free old new name w seats registers h = record {
  seats = ap (λ ss. has_room ss name w) seats ∙ h.seats;
  registers = subst (λ rs. Lacks (map (λ (p : Pin). p.name) rs) name) (sym registers) h.registers;
}
