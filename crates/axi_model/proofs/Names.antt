-- No two ports and registers of a sound block's module behind an AXI4-Lite slave port have one name.
use Rattle.std.proofs.Common.{◌≡◌, ℕ, ◌<◌, ◌≤◌, false, List, [], ◌∷◌, ◌++◌, codes, map, refl, ap, sym, ◌∙◌, subst, append_assoc, arith}
use Rattle.std.proofs.lemmas.List.{map-append}
use Rattle.rb_base.specs.declared.ports.Pin.{Pin}
use Rattle.rb_model.specs.declared.block.Block.{Block}
use Rattle.rb_model.specs.Front.{Register, register_pins}
use Rattle.rb_model.specs.Kept.{Kept, field_kept, register_name, register_width}
use Rattle.rb_model.specs.References.{Each}
use Rattle.rb_model.specs.Sound.{IsSound}
use Rattle.rb_model.proofs.Apart.{Apart, Apart-from, Name}
use Rattle.rb_model.proofs.FieldNames.{pin_names, port_names}
use Rattle.rb_model.proofs.KindWords.{has_dollar}
use Rattle.rb_model.proofs.PortNames.{Kind, names_behind}
use Rattle.axi_model.specs.Ports.{axi_ports, channel_ports}
use Rattle.axi_model.specs.Axi.{AxiKept, axi, channel_registers, field_registers}

registers_named : (rs : List (Register AxiKept)) → pin_names (map (λ r. record { name = r.name; width = r.width }) rs) ≡ map (λ (r : Register AxiKept). r.name) rs
registers_named [] = refl
registers_named (r ∷ rs) = ap (λ ns. r.name ∷ ns) (registers_named rs)

fields_named : (b : Block) (ks : List Kept) → map (λ (r : Register AxiKept). r.name) (map (λ k. record { name = register_name b k; width = register_width b k; value = λ m. m.fields k }) ks) ≡ map (register_name b) ks
fields_named b [] = refl
fields_named b (k ∷ ks) = ap (λ ns. register_name b k ∷ ns) (fields_named b ks)

abbrev pub own_names : List Name
own_names = map (λ (r : Register AxiKept). r.name) channel_registers

bus_plain : Each (λ n. has_dollar n ≡ false) (port_names channel_ports)
bus_plain = (refl, (refl, (refl, (refl, (refl, (refl, (refl, (refl, (refl, (refl, (refl, (refl, (refl, (refl, (refl, (refl, (refl, (refl, (refl, (refl, (refl, tt)))))))))))))))))))))

own_kind : Each (Kind 28 30) own_names
own_kind =
    let of : (path n : Name) → n ≡ codes "axi$" ++ path → Kind 28 30 n = λ path n e. (path, (29, (record { word = codes "axi$"; known = refl; is = e }, omega arith, omega arith))) in (
      of (codes "aw") _ refl,
      (of (codes "awaddr") _ refl, (of (codes "w") _ refl, (of (codes "wdata") _ refl, (of (codes "wstrb") _ refl, (of (codes "b") _ refl, (of (codes "bresp") _ refl, (of (codes "r") _ refl, (of (codes "rdata") _ refl, (of (codes "rresp") _ refl, tt))))))))),
    )

pub registers_are : (b : Block) → pin_names (register_pins (axi b)) ≡ map (register_name b) (field_kept b) ++ own_names
registers_are b =
    registers_named (field_registers b ++ channel_registers) ∙ map-append (λ (r : Register AxiKept). r.name) (field_registers b) channel_registers ∙ ap (λ ns. ns ++ own_names) (fields_named b (field_kept b))

-- the ports, what the fields keep, and what the port keeps
pub names_apart : (b : Block) → IsSound b → Apart (port_names (axi_ports b) ++ (map (register_name b) (field_kept b) ++ own_names))
names_apart b sound =
    subst Apart (append_assoc (port_names (axi_ports b)) (map (register_name b) (field_kept b)) own_names)
    (names_behind b sound channel_ports own_names (Apart-from (port_names channel_ports) refl) bus_plain (Apart-from own_names refl) own_kind)

pub all_apart : (b : Block) → IsSound b → Apart (port_names (axi_ports b) ++ pin_names (register_pins (axi b)))
all_apart b sound = subst (λ ns. Apart (port_names (axi_ports b) ++ ns)) (sym (registers_are b)) (names_apart b sound)
