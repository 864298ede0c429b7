-- The names and widths of a block's outputs.
use Rattle.std.proofs.Common.{◌≡◌, ℕ, suc, Bool, true, false, Some, List, [], ◌∷◌, ◌++◌, codes, map, filter, slice_get, refl, sym, ap, ◌∙◌, subst, arith}
use Rattle.std.specs.List.{enumerate_from, flat_map, list_all}
use Rattle.std.specs.Option.{option_map_or}
use Rattle.plain_lemmas.proofs.Bools.{and-both as and_left}
use Rattle.plain_lemmas.proofs.Lists.{all-get as list_at, get-map_at as mapped_at, map-map as mapped}
use Rattle.rb_base.specs.declared.ports.Pin.{Pin}
use Rattle.v_design.specs.Design.{is_output, outputs_among, port_pin}
use Rattle.v_design.specs.Lexemes as design
use Rattle.v_design.specs.WellFormed.{distinct}
use Rattle.rtl_net.specs.Names as names
use Rattle.rb_model.specs.declared.kinds.RefItem.TheVariants as item
use Rattle.rb_model.specs.declared.kinds.Shown.{Shown}
use Rattle.rb_model.specs.declared.kinds.Shown.TheVariants as shown
use Rattle.rb_model.specs.declared.block.Block.{Block}
use Rattle.rb_model.specs.declared.block.Field.{Field}
use Rattle.rb_model.specs.declared.block.Reg.{Reg}
use Rattle.rb_model.specs.Kept.{kept_pins, when}
use Rattle.rb_model.specs.Ports.{Outlet, field_outlets, outlet, outlets, ports, reg_outlets, shown_item, shown_word}
use Rattle.rb_model.specs.References.{Each, item_width}
use Rattle.rb_model.specs.Sound.{IsSound, is_path}
use Rattle.rb_model.proofs.Apart.{Apart, Apart-filter, Apart-from, Apart-place, Name}
use Rattle.rb_model.proofs.Eachs.{Each-always, Each-append, Each-flat_map, Each-left, Each-map, Each-numbered_all}
use Rattle.gen_scene.proofs.ResetPins.{bytes_wider}
use Rattle.rb_model.proofs.InputPins.{bus_shown, outlet_pin, output_pins_are}

when_each : {X : Type 0} (P : X → Type 0) (c : Bool) (x : X) → P x → Each P (when c x)
when_each P true x h = (h, tt)
when_each P false x h = tt

-- Widths

shown_width : (b : Block) (k : ℕ) (s : Shown) → item_width b (shown_item k s) ≡ 1
shown_width b k shown.Anded = refl
shown_width b k shown.Ored = refl
shown_width b k shown.Xored = refl
shown_width b k shown.IncrThreshold = refl
shown_width b k shown.DecrThreshold = refl
shown_width b k shown.Overflow = refl
shown_width b k shown.Underflow = refl
shown_width b k shown.SwMod = refl
shown_width b k shown.SwAcc = refl

pub outlets_wide : (b : Block) → Each (λ o. item_width b o.item ≡ o.width) (outlets b)
outlets_wide b = Each-append (λ o. item_width b o.item ≡ o.width) (flat_map field_outlets (enumerate_from 0 b.fields)) (flat_map reg_outlets (enumerate_from 0 b.regs))
    (Each-flat_map (λ o. item_width b o.item ≡ o.width) field_outlets (enumerate_from 0 b.fields) (Each-numbered_all (λ e. Each (λ o. item_width b o.item ≡ o.width) (field_outlets e)) b.fields
    (λ k f e. Each-append (λ o. item_width b o.item ≡ o.width) (when f.hw_reads (outlet (codes "out$" ++ f.path) f.width (item.Field k))) (map (λ s. outlet (shown_word s ++ f.path) 1 (shown_item k s)) f.shown)
    (when_each (λ o. item_width b o.item ≡ o.width) f.hw_reads (outlet (codes "out$" ++ f.path) f.width (item.Field k)) (ap (λ o. option_map_or (λ g. g.width) o 0) e))
    (Each-map (λ o. item_width b o.item ≡ o.width) (λ s. outlet (shown_word s ++ f.path) 1 (shown_item k s)) f.shown (Each-always (λ s. item_width b (shown_item k s) ≡ 1) (shown_width b k) f.shown)))))
    (Each-flat_map (λ o. item_width b o.item ≡ o.width) reg_outlets (enumerate_from 0 b.regs) (Each-numbered_all (λ e. Each (λ o. item_width b o.item ≡ o.width) (reg_outlets e)) b.regs
    (λ k r e. Each-append (λ o. item_width b o.item ≡ o.width) (when r.intr (outlet (codes "intr$" ++ r.path) 1 (item.Intr k))) (when r.halt (outlet (codes "halt$" ++ r.path) 1 (item.Halt k)))
    (when_each (λ o. item_width b o.item ≡ o.width) r.intr (outlet (codes "intr$" ++ r.path) 1 (item.Intr k)) refl) (when_each (λ o. item_width b o.item ≡ o.width) r.halt (outlet (codes "halt$" ++ r.path) 1 (item.Halt k)) refl))))

-- Names

field_path : (b : Block) → IsSound b → (k : ℕ) (f : Field) → slice_get b.fields k ≡ Some f → list_all names.is_name_byte f.path ≡ true
field_path b sound k f e = bytes_wider f.path (list_at (λ g. is_path g.path) b.fields k f (and_left (distinct (map (λ g. g.path) b.fields)) (list_all (λ g. is_path g.path) b.fields) sound.field_paths).1 e)

reg_path : (b : Block) → IsSound b → (k : ℕ) (r : Reg) → slice_get b.regs k ≡ Some r → list_all names.is_name_byte r.path ≡ true
reg_path b sound k r e = bytes_wider r.path (list_at (λ g. is_path g.path) b.regs k r (and_left (distinct (map (λ g. g.path) b.regs)) (list_all (λ g. is_path g.path) b.regs) sound.reg_paths).1 e)

shown_named : (path : List ℕ) → list_all names.is_name_byte path ≡ true → (s : Shown) → names.is_net_name (shown_word s ++ path) ≡ true
shown_named path p shown.Anded = rw p refl
shown_named path p shown.Ored = rw p refl
shown_named path p shown.Xored = rw p refl
shown_named path p shown.IncrThreshold = rw p refl
shown_named path p shown.DecrThreshold = rw p refl
shown_named path p shown.Overflow = rw p refl
shown_named path p shown.Underflow = rw p refl
shown_named path p shown.SwMod = rw p refl
shown_named path p shown.SwAcc = rw p refl

out_named : (path : List ℕ) → list_all names.is_name_byte path ≡ true → names.is_net_name (codes "out$" ++ path) ≡ true
out_named path p = rw p refl

intr_named : (path : List ℕ) → list_all names.is_name_byte path ≡ true → names.is_net_name (codes "intr$" ++ path) ≡ true
intr_named path p = rw p refl

halt_named : (path : List ℕ) → list_all names.is_name_byte path ≡ true → names.is_net_name (codes "halt$" ++ path) ≡ true
halt_named path p = rw p refl

pub outlets_named : (b : Block) → IsSound b → Each (λ o. names.is_net_name o.name ≡ true) (outlets b)
outlets_named b sound = Each-append (λ o. names.is_net_name o.name ≡ true) (flat_map field_outlets (enumerate_from 0 b.fields)) (flat_map reg_outlets (enumerate_from 0 b.regs))
    (Each-flat_map (λ o. names.is_net_name o.name ≡ true) field_outlets (enumerate_from 0 b.fields) (Each-numbered_all (λ e. Each (λ o. names.is_net_name o.name ≡ true) (field_outlets e)) b.fields
    (λ k f e. Each-append (λ o. names.is_net_name o.name ≡ true) (when f.hw_reads (outlet (codes "out$" ++ f.path) f.width (item.Field k))) (map (λ s. outlet (shown_word s ++ f.path) 1 (shown_item k s)) f.shown)
    (when_each (λ o. names.is_net_name o.name ≡ true) f.hw_reads (outlet (codes "out$" ++ f.path) f.width (item.Field k)) (out_named f.path (field_path b sound k f e)))
    (Each-map (λ o. names.is_net_name o.name ≡ true) (λ s. outlet (shown_word s ++ f.path) 1 (shown_item k s)) f.shown (Each-always (λ s. names.is_net_name (shown_word s ++ f.path) ≡ true) (shown_named f.path (field_path b sound k f e)) f.shown)))))
    (Each-flat_map (λ o. names.is_net_name o.name ≡ true) reg_outlets (enumerate_from 0 b.regs) (Each-numbered_all (λ e. Each (λ o. names.is_net_name o.name ≡ true) (reg_outlets e)) b.regs
    (λ k r e. Each-append (λ o. names.is_net_name o.name ≡ true) (when r.intr (outlet (codes "intr$" ++ r.path) 1 (item.Intr k))) (when r.halt (outlet (codes "halt$" ++ r.path) 1 (item.Halt k)))
    (when_each (λ o. names.is_net_name o.name ≡ true) r.intr (outlet (codes "intr$" ++ r.path) 1 (item.Intr k)) (intr_named r.path (reg_path b sound k r e)))
    (when_each (λ o. names.is_net_name o.name ≡ true) r.halt (outlet (codes "halt$" ++ r.path) 1 (item.Halt k)) (halt_named r.path (reg_path b sound k r e))))))

-- No two have one name

Apart-left : (xs ys : List Name) → Apart (xs ++ ys) → Apart xs
Apart-left [] ys h = tt
Apart-left (x ∷ xs) ys h = (Each-left (λ m. m ≡ x → ⊥) xs ys h.0, Apart-left xs ys h.1)

pub one_outlet : (b : Block) → distinct (map (λ p. p.name) (ports b) ++ map (λ p. p.name) (kept_pins b)) ≡ true → (i j : ℕ) (o q : Outlet) → slice_get (outlets b) i ≡ Some o → slice_get (outlets b) j ≡ Some q → o.name ≡ q.name → i ≡ j
one_outlet b apart i j o q at_i at_j same =
    let all : Apart (map (λ p. p.name) (ports b)) = Apart-left (map (λ p. p.name) (ports b)) (map (λ p. p.name) (kept_pins b)) (Apart-from (map (λ p. p.name) (ports b) ++ map (λ p. p.name) (kept_pins b)) apart) in
    let outs : Apart (map (λ p. p.name) (filter is_output (ports b))) = Apart-filter (λ p. p.name) is_output (ports b) all in
    let pins : Apart (map (λ p. p.name) (outputs_among (ports b))) = subst Apart (sym (mapped (λ (p : Pin). p.name) port_pin (filter is_output (ports b)))) outs in
    let listed : Apart (map (λ p. p.name) (bus_shown ++ map outlet_pin (outlets b))) = subst (λ ps. Apart (map (λ (p : Pin). p.name) ps)) (output_pins_are b) pins in
    let place : (k : ℕ) (r : Outlet) → slice_get (outlets b) k ≡ Some r → slice_get (map (λ p. p.name) (bus_shown ++ map outlet_pin (outlets b))) (suc (suc (suc k))) ≡ Some r.name
    = λ k r e. mapped_at (λ (p : Pin). p.name) (map outlet_pin (outlets b)) k (outlet_pin r) (mapped_at outlet_pin (outlets b) k r e) in
    let e = Apart-place (map (λ p. p.name) (bus_shown ++ map outlet_pin (outlets b))) (suc (suc (suc i))) (suc (suc (suc j))) q.name listed (place i o at_i ∙ ap Some same) (place j q at_j) in
    omega arith
