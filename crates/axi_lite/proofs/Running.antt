-- The netlist is one of the block behind its port, and what follows of its transfers.
use Rattle.std.proofs.Common.{◌≡◌, ◌↔◌, ℕ, Some, List, [], ◌∷◌, ◌++◌, map, slice_get, inl, inr, refl, sym, ap, ◌∙◌, subst, arith}
use Rattle.std.specs.Prelude.{Contains}
use Rattle.plain_lemmas.proofs.Lists.{each-unit as all_tt, map-append}
use Rattle.rb_base.specs.declared.ports.Pin.{Pin}
use Rattle.rtl_net.specs.Net.{Net}
use Rattle.rtl_net.specs.Made.{IsMade}
use Rattle.rb_model.specs.declared.block.Block.{Block}
use Rattle.rb_model.specs.Front.{Register, register_pins}
use Rattle.rb_model.specs.Kept.{Kept, field_kept, kept_pin, register_name, register_width}
use Rattle.rb_model.specs.Ports.{outlets}
use Rattle.rb_model.specs.References.{Each}
use Rattle.rb_model.specs.Sound.{IsSound}
use Rattle.rb_model.proofs.Eachs.{Each-at}
use Rattle.axi_model.specs.Axi.{AxiKept, axi, channel_registers, field_registers}
use Rattle.axi_model.specs.Ports.{axi_name}
use Rattle.gen_front.specs.Netlist.{IsNetlistOf}
use Rattle.gen_core.specs.Ties.{outlet_pin}
use Rattle.gen_front.proofs.Elements.{at_contains, contains_at, in_either, in_left, in_right}
use Rattle.gen_front.proofs.Netlists.{IsLaidOut, is_netlist as of_front}
use Rattle.axi_lite.specs.Built.{IsAxiBuilt}
use Rattle.axi_lite.specs.Tables.{data_register, own_outputs, own_registers}
use Rattle.axi_lite.proofs.Joining.{edges_are}
use Rattle.axi_lite.proofs.Names.{outputs_are, ports_apart}

abbrev as_pin : Register AxiKept → Pin
as_pin r = record { name = r.name; width = r.width }

abbrev all_registers : List Pin
all_registers = map as_pin channel_registers

fields_as_pins : (b : Block) (ks : List Kept) → map as_pin (map (λ k. record { name = register_name b k; width = register_width b k; value = λ m. m.fields k }) ks) ≡ map (kept_pin b) ks
fields_as_pins b [] = refl
fields_as_pins b (k ∷ ks) = ap (λ ps. kept_pin b k ∷ ps) (fields_as_pins b ks)

pins_are : (b : Block) → register_pins (axi b) ≡ map (kept_pin b) (field_kept b) ++ all_registers
pins_are b = map-append as_pin (field_registers b) channel_registers ∙ ap (λ ps. ps ++ all_registers) (fields_as_pins b (field_kept b))

-- the registers in the order in which they are added, and in that of the machine

in_all : Each (λ q. Contains all_registers q) (own_registers ++ data_register ∷ [])
in_all =
    let at : (k : ℕ) (q : Pin) → slice_get all_registers k ≡ Some q → Contains all_registers q = λ k q e. at_contains all_registers k q e in
    (at 0 _ refl, (at 1 _ refl, (at 2 _ refl, (at 3 _ refl, (at 4 _ refl, (at 5 _ refl, (at 6 _ refl, (at 7 _ refl, (at 9 _ refl, (at 8 _ refl, tt))))))))))

all_in : Each (λ q. Contains (own_registers ++ data_register ∷ []) q) all_registers
all_in =
    let own : List Pin = own_registers ++ data_register ∷ [] in
    let at : (k : ℕ) (q : Pin) → slice_get own k ≡ Some q → Contains own q = λ k q e. at_contains own k q e in
    (at 0 _ refl, (at 1 _ refl, (at 2 _ refl, (at 3 _ refl, (at 4 _ refl, (at 5 _ refl, (at 6 _ refl, (at 7 _ refl, (at 9 _ refl, (at 8 _ refl, tt))))))))))

moved_in : (xs ys : List Pin) (p : Pin) → Each (λ q. Contains ys q) xs → Contains xs p → Contains ys p
moved_in xs ys p h c = Each-at (λ q. Contains ys q) xs c.0 p h (contains_at xs p c)

same_registers : (fields : List Pin) (p : Pin) → Contains (own_registers ++ fields ++ data_register ∷ []) p ↔ Contains (fields ++ all_registers) p
same_registers fields p = (to, from)
  where
    to : Contains (own_registers ++ fields ++ data_register ∷ []) p → Contains (fields ++ all_registers) p
    to c = elim (in_either (own_registers ++ fields) (data_register ∷ []) p c) [
      | inr l ↦ in_right fields all_registers p (moved_in (own_registers ++ data_register ∷ []) all_registers p in_all (in_right own_registers (data_register ∷ []) p l))
      | inl r ↦ elim (in_either own_registers fields p r) [
        | inl l ↦ in_right fields all_registers p (moved_in (own_registers ++ data_register ∷ []) all_registers p in_all (in_left own_registers (data_register ∷ []) p l))
        | inr f ↦ in_left fields all_registers p f
      ]
    ]

    from : Contains (fields ++ all_registers) p → Contains (own_registers ++ fields ++ data_register ∷ []) p
    from c = elim (in_either fields all_registers p c) [
      | inl f ↦ in_left (own_registers ++ fields) (data_register ∷ []) p (in_right own_registers fields p f)
      | inr a ↦ elim (in_either own_registers (data_register ∷ []) p (moved_in all_registers (own_registers ++ data_register ∷ []) p all_in a)) [
        | inl l ↦ in_left (own_registers ++ fields) (data_register ∷ []) p (in_left own_registers fields p l)
        | inr d ↦ in_right (own_registers ++ fields) (data_register ∷ []) p d
      ]
    ]

pub is_netlist : (b : Block) → IsSound b → (net : Net) → IsMade net → IsAxiBuilt b net → net.name ≡ axi_name b → IsNetlistOf net (axi b)
is_netlist b sound net made built named =
    let out : IsLaidOut (axi b) own_outputs (map outlet_pin (outlets b)) net = record {
      named = named;
      clocked = omega arith;
      apart = ports_apart b sound;
      outputs_are = outputs_are b sound;
      laid = built.laid;
      are_laid = built.are_laid;
      seats = built.seats;
      driven = built.driven;
      kept_only = λ p. subst (λ ps. Contains ps p ↔ Contains (register_pins (axi b)) p) (sym built.registers)
          (subst (λ ps. Contains (own_registers ++ map (kept_pin b) (field_kept b) ++ data_register ∷ []) p ↔ Contains ps p) (sym (pins_are b)) (same_registers (map (kept_pin b) (field_kept b)) p));
    } in
    of_front (axi b) own_outputs (map outlet_pin (outlets b)) net made out (λ p. Unit {0}) (edges_are b net built) (λ vectors keeps. all_tt vectors)
