-- An edge of the netlist is one of the block's machine, and so the netlist is one of the block behind its bus.
use Rattle.std.proofs.Common.{◌≡◌, ◌↔◌, ℕ, zero, suc, if◌then◌else◌, Option, Some, None, List, [], ◌∷◌, ◌++◌, codes, map, refl, sym, ap, ◌∙◌, subst, arith, inl, inr}
use Rattle.std.specs.Prelude.{Contains}
use Rattle.std.specs.List.{AllByRecursion}
use Rattle.std.proofs.lemmas.List.{map-append}
use Rattle.rb_base.specs.declared.ports.Pin.{Pin}
use Rattle.v_design.specs.Expr.{Values}
use Rattle.rtl_net.specs.Value.{At}
use Rattle.rtl_net.specs.Net.{Net}
use Rattle.rtl_net.specs.Made.{IsMade}
use Rattle.rtl_net.specs.Run.{registers, values_at}
use Rattle.rtl_net.specs.declared.node.Id.{Id}
use Rattle.rb_model.specs.declared.block.Block.{Block}
use Rattle.rb_model.specs.Front.{front_outputs, pins_at}
use Rattle.rb_model.specs.Kept.{Waited, Data, Error, kept_pins, field_kept, kept_pin}
use Rattle.rb_model.specs.Ports.{Outlet, module_name, outlets}
use Rattle.rb_model.specs.Protocol.{Bus, IDLE, IsKeptIn, KeepsFrom, Phase, bus_of, idle, phase_after}
use Rattle.rb_model.specs.Run.{apb}
use Rattle.rb_model.specs.Sound.{IsSound}
use Rattle.rb_model.proofs.ApbFront.{apb_pins, contain, contained}
use Rattle.rb_model.proofs.InputPins.{output_pins_are}
use Rattle.gen_front.specs.Netlist.{IsNetlistOf}
use Rattle.gen_core.specs.Ties.{outlet_pin}
use Rattle.gen_front.specs.Edges.{EdgesAre}
use Rattle.gen_front.proofs.Elements.{in_either, in_left, in_right}
use Rattle.gen_front.proofs.Netlists.{IsLaidOut, is_netlist as of_front}
use Rattle.gen_apb.specs.Fronts.{IsClosing, access_registers, data_registers}
use Rattle.gen_apb.specs.Built.{IsBuilt, bus_shown}
use Rattle.gen_apb.proofs.Edging.{IsQuiet, held_after, outs_are}
use Rattle.gen_apb.proofs.Naming.{AllApart, ports_apart}

-- Vectors that keep the protocol

quiet_from : (waits : ℕ) (last : Phase) (before here : Bus) → IsKeptIn (phase_after waits last here) waits last before here → IsQuiet here
quiet_from waits last before here k z =
    let e : phase_after waits last here ≡ IDLE = ap (λ r. phase_after waits last (record here { resetn = r })) z in
    (subst (λ q. IsKeptIn q waits last before here) e k).quiet z

-- Registers

-- the registers of the bus come before and behind those of the fields
same_set : {X : Type 0} (f w d e : X) (xs : List X) (p : X) → Contains (w ∷ e ∷ [] ++ xs ++ d ∷ []) p ↔ Contains (xs ++ w ∷ d ∷ e ∷ []) p
same_set {X = X} f w d e xs p = (to, from)
  where
    one : (q : X) → Contains (q ∷ []) p → q ≡ p
    one q (zero, low, is) = is
    one q (suc k, low, is) = absurd (omega (arith, low))

    to : Contains (w ∷ e ∷ [] ++ xs ++ d ∷ []) p → Contains (xs ++ w ∷ d ∷ e ∷ []) p
    to c = elim (in_either (w ∷ e ∷ [] ++ xs) (d ∷ []) p c) [
      | inr l ↦ in_right xs (w ∷ d ∷ e ∷ []) p (1, omega arith, one d l)
      | inl r ↦ elim (in_either (w ∷ e ∷ []) xs p r) [
        | inr l ↦ in_left xs (w ∷ d ∷ e ∷ []) p l
        | inl (zero, low, is) ↦ in_right xs (w ∷ d ∷ e ∷ []) p (0, omega arith, is)
        | inl (suc zero, low, is) ↦ in_right xs (w ∷ d ∷ e ∷ []) p (2, omega arith, is)
        | inl (suc (suc k), low, is) ↦ absurd (omega (arith, low))
      ]
    ]

    from : Contains (xs ++ w ∷ d ∷ e ∷ []) p → Contains (w ∷ e ∷ [] ++ xs ++ d ∷ []) p
    from c = elim (in_either xs (w ∷ d ∷ e ∷ []) p c) [
      | inl l ↦ in_left (w ∷ e ∷ [] ++ xs) (d ∷ []) p (in_right (w ∷ e ∷ []) xs p l)
      | inr (zero, low, is) ↦ in_left (w ∷ e ∷ [] ++ xs) (d ∷ []) p (in_left (w ∷ e ∷ []) xs p (0, omega arith, is))
      | inr (suc zero, low, is) ↦ in_right (w ∷ e ∷ [] ++ xs) (d ∷ []) p (0, omega arith, is)
      | inr (suc (suc zero), low, is) ↦ in_left (w ∷ e ∷ [] ++ xs) (d ∷ []) p (in_left (w ∷ e ∷ []) xs p (1, omega arith, is))
      | inr (suc (suc (suc k)), low, is) ↦ absurd (omega (arith, low))
    ]

registers_same : (b : Block) (net : Net) (o : Option Id) (p : Pin) → IsClosing b net o → Contains (access_registers b ++ map (kept_pin b) (field_kept b) ++ data_registers o) p ↔ Contains (kept_pins b) p
registers_same b net None p w =
    let fields = map (kept_pin b) (field_kept b) in
    let e : access_registers b ++ fields ++ [] ≡ kept_pins b =
    ap (λ c. (if c then record { name = codes "apb$wait"; width = 1 } ∷ record { name = codes "apb$error"; width = 1 } ∷ [] else []) ++ fields ++ []) w ∙ sym (map-append (kept_pin b) (field_kept b) [])
    ∙ ap (λ c. map (kept_pin b) (field_kept b ++ (if c then Waited ∷ Data ∷ Error ∷ [] else []))) (sym w) in
    subst (λ ps. Contains ps p ↔ Contains (kept_pins b) p) (sym e) (λ c. c, λ c. c)
registers_same b net (Some id) p w =
    let fields = map (kept_pin b) (field_kept b) in
    let wait : Pin = record { name = codes "apb$wait"; width = 1 } in
    let error : Pin = record { name = codes "apb$error"; width = 1 } in
    let kept_data : Pin = record { name = codes "apb$data"; width = 32 } in
    let e : access_registers b ++ fields ++ kept_data ∷ [] ≡ wait ∷ error ∷ [] ++ fields ++ kept_data ∷ [] = ap (λ c. (if c then wait ∷ error ∷ [] else []) ++ fields ++ kept_data ∷ []) w.0 in
    let g : kept_pins b ≡ fields ++ wait ∷ kept_data ∷ error ∷ [] =
    ap (λ c. map (kept_pin b) (field_kept b ++ (if c then Waited ∷ Data ∷ Error ∷ [] else []))) w.0 ∙ map-append (kept_pin b) (field_kept b) (Waited ∷ Data ∷ Error ∷ []) in
    subst (λ ps. Contains ps p ↔ Contains (kept_pins b) p) (sym e) (subst (λ ps. Contains (wait ∷ error ∷ [] ++ fields ++ kept_data ∷ []) p ↔ Contains ps p) (sym g) (same_set wait wait kept_data error fields p))

-- The netlist

module _ (b : Block) where
  mapped_names : (v : Values) (os : List Outlet) → values_at v (map outlet_pin os) ≡ map (λ o. v o.name) os
  mapped_names v [] = refl
  mapped_names v (o ∷ os) = ap (λ xs. v o.name ∷ xs) (mapped_names v os)

  outs_seen : (v : At) → values_at v.outs (front_outputs (apb b)) ≡ v.outs (codes "PREADY") ∷ v.outs (codes "PRDATA") ∷ v.outs (codes "PSLVERR") ∷ map (λ o. v.outs o.name) (outlets b)
  outs_seen v = ap (values_at v.outs) (output_pins_are b) ∙ ap (λ xs. v.outs (codes "PREADY") ∷ v.outs (codes "PRDATA") ∷ v.outs (codes "PSLVERR") ∷ xs) (mapped_names v.outs (outlets b))

  quiet_each : (last : Phase) (before : Bus) (vectors : List (List ℕ)) → KeepsFrom b.waits last before (map bus_of (map (pins_at (apb b)) vectors)) → AllByRecursion (λ x. IsQuiet (bus_of (pins_at (apb b) x))) vectors
  quiet_each last before [] keeps = tt
  quiet_each last before (x ∷ xs) keeps =
      let p = bus_of (pins_at (apb b) x) in
      (quiet_from b.waits last before p keeps.0, quiet_each (phase_after b.waits last p) p xs keeps.1)

module _ (b : Block) (sound : IsSound b) (net : Net) (made : IsMade net) (built : IsBuilt b net) (apart : AllApart b) where
  edges : EdgesAre (apb b) (λ p. IsQuiet (bus_of p)) net
  edges = record {
    shown = λ v s m holds quiet items valued. outs_seen b v ∙ outs_are b sound net built v s m (contained b m v.kept holds) quiet items valued;
    kept = λ v s m holds quiet items valued. contain b _ v.after (held_after b sound net built v s m (contained b m v.kept holds) quiet items valued _ refl);
  }

  kept_only : (p : Pin) → Contains (registers net) p ↔ Contains (kept_pins b) p
  kept_only p = subst (λ ps. Contains ps p ↔ Contains (kept_pins b) p) (sym built.registers) (registers_same b net built.front.closes p built.is_front.closing)

  pub is_netlist : net.name ≡ module_name b → IsNetlistOf net (apb b)
  is_netlist named =
      let out : IsLaidOut (apb b) bus_shown (map outlet_pin (outlets b)) net = record {
        named = named;
        clocked = omega arith;
        apart = ports_apart b apart;
        outputs_are = output_pins_are b;
        laid = built.laid;
        are_laid = built.are_laid;
        seats = built.seats;
        driven = built.driven;
        kept_only = subst (λ ps. (p : Pin) → Contains (registers net) p ↔ Contains ps p) (sym (apb_pins b)) kept_only;
      } in
      of_front (apb b) bus_shown (map outlet_pin (outlets b)) net made out (λ p. IsQuiet (bus_of p)) edges (λ vectors keeps. quiet_each b IDLE idle vectors keeps)
