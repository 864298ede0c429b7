-- The nodes of pins and registers, by their places.
use Rattle.std.proofs.Common.{◌≡◌, ℕ, zero, suc, ◌+◌, ◌-◌, ◌==◌, Bool, true, false, if◌then◌else◌, Some, List, [], ◌∷◌, ◌++◌, codes, length, drop, slice_get, refl, sym, ap, ◌∙◌, subst, arith}
use Rattle.std.proofs.lemmas.List.{length-append, length-drop}
use Rattle.std.proofs.lemmas.Option.{same_Some}
use Rattle.rb_base.specs.declared.ports.Pin.{Pin}
use Rattle.v_design.specs.Design.{inputs_among}
use Rattle.v_design.specs.Expr.{Values}
use Rattle.rtl_net.specs.Value.{At}
use Rattle.rtl_net.specs.Net.{Net, IsNode}
use Rattle.rtl_net.specs.Ids.{at}
use Rattle.rtl_net.specs.declared.node.Id.{Id}
use Rattle.rb_model.specs.declared.block.Block.{Block}
use Rattle.rb_model.specs.Front.{front_inputs}
use Rattle.rb_model.specs.Ports.{block_ports, input_pins, pin}
use Rattle.rb_model.specs.Sound.{IsSound}
use Rattle.rb_model.proofs.InputPins.{block_inputs, bus_pins}
use Rattle.block_plan.specs.Pins.{is_access_pin}
use Rattle.axi_model.specs.Axi.{axi}
use Rattle.axi_model.specs.Channels.{Channels, idle}
use Rattle.gen_scene.specs.Bases.{HasPins, IsPinNode}
use Rattle.gen_ports.specs.Laid.{AreInputs}
use Rattle.gen_ports.specs.Registers.{IsResetn, cleared}
use Rattle.gen_channels.specs.Nodes.{contents_of, kept_seen}

-- the port's pins, which come first
abbrev pub own_pins : List Pin
own_pins =
    pin (codes "PRESETn") 1 ∷ pin (codes "AWADDR") 32 ∷ pin (codes "AWPROT") 3 ∷ pin (codes "AWVALID") 1 ∷ pin (codes "WDATA") 32 ∷ pin (codes "WSTRB") 4
    ∷ pin (codes "WVALID") 1 ∷ pin (codes "BREADY") 1 ∷ pin (codes "ARADDR") 32 ∷ pin (codes "ARPROT") 3 ∷ pin (codes "ARVALID") 1 ∷ pin (codes "RREADY") 1 ∷ []

pub inputs_are : (b : Block) → front_inputs (axi b) ≡ own_pins ++ inputs_among (block_ports b)
inputs_are b = refl

pub is_resetn : (b : Block) (net : Net) (ids : List Id) → AreInputs net ids (front_inputs (axi b)) → IsResetn net (at ids 0)
is_resetn b net ids h = let p = h.each 0 (pin (codes "PRESETn") 1) refl in record { input = p.input; node = p.node }

-- what a register that PRESETn clears is worth
pub kept_node : (net : Net) (id : Id) (w : ℕ) (name : List ℕ) (f : Channels → ℕ) → f idle ≡ 0 → ((k : Values) → f (contents_of k) ≡ k name) → IsNode net id w (cleared name) → IsNode net id w (λ v. f (kept_seen v))
kept_node net id w name f none is h = record { stands = h.stands; value = λ v s. h.value v s ∙ by v (v.ins (codes "PRESETn") == 0) }
  where
    by : (v : At) (t : Bool) → (if t then 0 else v.kept name) ≡ f (if t then idle else contents_of v.kept)
    by v true = sym none
    by v false = sym (is v.kept)

-- The pins of a core

drop_at : (n j : ℕ) (ids : List Id) → at (drop n ids) j ≡ at ids (n + j)
drop_at zero j ids = let z : j ≡ 0 + j = omega arith in ap (at ids) z
drop_at (suc n) j [] = refl
drop_at (suc n) j (i ∷ ids) = let z : suc (n + j) ≡ suc n + j = omega arith in drop_at n j ids ∙ ap (at (i ∷ ids)) z

abbrev six : Id → List Id → List Id
six r ids = r ∷ r ∷ r ∷ r ∷ r ∷ r ∷ ids

-- those behind the pins of the bus
behind : (net : Net) (ids : List Id) (rest : List Pin) (j : ℕ) (p : Pin) → AreInputs net ids (own_pins ++ rest) → slice_get rest j ≡ Some p → IsPinNode net (at (drop 12 ids) j) p
behind net ids rest j p h e = subst (λ i. IsPinNode net i p) (sym (drop_at 12 j ids)) (h.each (12 + j) p (place j e))
  where
    place : (k : ℕ) → slice_get rest k ≡ Some p → slice_get (own_pins ++ rest) (12 + k) ≡ Some p
    place k f = let z : 12 + k ≡ suc (suc (suc (suc (suc (suc (suc (suc (suc (suc (suc (suc k))))))))))) = omega arith in ap (slice_get (own_pins ++ rest)) z ∙ f

access_no : (q p : Pin) → is_access_pin q.name ≡ true → Some q ≡ Some p → is_access_pin p.name ≡ false → ⊥
access_no q p t e f = let z : true ≡ false = sym t ∙ ap (λ (r : Pin). is_access_pin r.name) (same_Some q p e) ∙ f in cc z

each_pin : (net : Net) (ids : List Id) (rest : List Pin) → AreInputs net ids (own_pins ++ rest) → (k : ℕ) (p : Pin) → slice_get (bus_pins ++ rest) k ≡ Some p → is_access_pin p.name ≡ false → IsPinNode net (at (six (at ids 0) (drop 12 ids)) k) p
each_pin net ids rest h zero p e other = subst (IsPinNode net (at ids 0)) (same_Some (pin (codes "PRESETn") 1) p e) (h.each 0 (pin (codes "PRESETn") 1) refl)
each_pin net ids rest h (suc zero) p e other = absurd (access_no (pin (codes "PADDR") 32) p refl e other)
each_pin net ids rest h (suc (suc zero)) p e other = absurd (access_no (pin (codes "PSEL") 1) p refl e other)
each_pin net ids rest h (suc (suc (suc zero))) p e other = absurd (access_no (pin (codes "PENABLE") 1) p refl e other)
each_pin net ids rest h (suc (suc (suc (suc zero)))) p e other = absurd (access_no (pin (codes "PWRITE") 1) p refl e other)
each_pin net ids rest h (suc (suc (suc (suc (suc zero))))) p e other = absurd (access_no (pin (codes "PWDATA") 32) p refl e other)
each_pin net ids rest h (suc (suc (suc (suc (suc (suc j)))))) p e other = behind net ids rest j p h e

pub core_pins_are : (b : Block) → IsSound b → (net : Net) (ids pins : List Id) → pins ≡ six (at ids 0) (drop 12 ids) → AreInputs net ids (front_inputs (axi b)) → HasPins b net pins
core_pins_are b sound net ids pins is h = subst (HasPins b net) (sym is) (record {
  long =
      let rest = inputs_among (block_ports b) in
      let l = h.long in
      let d : length (drop 12 ids) ≡ length ids - 12 = length-drop 12 ids in
      let o : length (own_pins ++ rest) ≡ length own_pins + length rest = length-append own_pins rest in
      let p : length (input_pins b) ≡ length bus_pins + length rest = ap length (block_inputs b sound) ∙ length-append bus_pins rest in
      omega (arith, l, d, o, p);
  each = λ k p e other. each_pin net ids (inputs_among (block_ports b)) h k p (ap (λ ps. slice_get ps k) (sym (block_inputs b sound)) ∙ e) other;
})
