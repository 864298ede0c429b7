-- The pins of a vector, and its outputs, by their places.
use Rattle.std.proofs.Common.{◌≡◌, ℕ, zero, suc, ◌+◌, ◌<◌, ◌==◌, Bool, true, false, not, ◌&&◌, if◌then◌else◌, Option, Some, None, List, [], ◌∷◌, ◌++◌, codes, length, slice_get, get_or, map, filter, refl, ap, sym, ◌∙◌, subst, append_assoc, append-nil, arith}
use Rattle.std.specs.List.{enumerate_from, flat_map}
use Rattle.std.specs.Str.{bytes_eq}
use Rattle.std.proofs.lemmas.Option.{same_Some}
use Rattle.std.proofs.lemmas.List.{map-append}
use Rattle.rb_base.specs.declared.ports.Dir.{Dir}
use Rattle.rb_base.specs.declared.ports.Dir.TheVariants.{In, Out}
use Rattle.rb_base.specs.declared.ports.Port.{Port}
use Rattle.rb_base.specs.declared.ports.Pin.{Pin}
use Rattle.v_design.specs.Expr.{Values}
use Rattle.v_design.specs.Design.{inputs_among, outputs_among}
use Rattle.rb_model.specs.declared.block.Block.{Block}
use Rattle.rb_model.specs.declared.block.Field.{Field}
use Rattle.rb_model.specs.declared.block.Reg.{Reg}
use Rattle.rb_model.specs.declared.block.View.{View}
use Rattle.rb_model.specs.Ports.{Outlet, pin, block_ports, ports, input, output, bus_inputs, bus_outputs, signal_pins, field_ports, field_pins, field_outlets, view_pins, reg_outlets, outlets, input_pins, by_name}
use Rattle.rb_model.specs.References.{Each}
use Rattle.rb_model.specs.Sound.{IsSound}
use Rattle.rb_model.proofs.Eachs.{Each-left, Each-right, Each-at, Each-weaker}
use Rattle.rb_model.proofs.OwnViews.{by_cases}
use Rattle.rb_model.specs.Run.{pins_of}
use Rattle.rb_model.proofs.Apart.{Name, Apart, bytes_eq-from, bytes_eq-to, bytes_eq-not}
use Rattle.rb_model.proofs.FieldNames.{pin_names, port_names}
use Rattle.rb_model.proofs.PortNames.{port_names_apart}

abbrev pub clock : Name
clock = codes "PCLK"

abbrev pub pin_of : Port → Pin
pin_of p = record { name = p.name; width = p.width }

-- an input that isn't the clock, the clock, and an output
keeps_input : (p : Port) (ps : List Port) → p.dir ≡ In → (p.name ≡ clock → ⊥) → inputs_among (p ∷ ps) ≡ pin_of p ∷ inputs_among ps
keeps_input p ps d n = let e : bytes_eq p.name clock ≡ false = bytes_eq-not p.name clock n in rw (d, e) refl

drops_clock : (p : Port) (ps : List Port) → p.dir ≡ In → p.name ≡ clock → inputs_among (p ∷ ps) ≡ inputs_among ps
drops_clock p ps d n = let e : bytes_eq p.name clock ≡ true = bytes_eq-from p.name clock n in rw (d, e) refl

drops_output : (p : Port) (ps : List Port) → p.dir ≡ Out → inputs_among (p ∷ ps) ≡ inputs_among ps
drops_output p ps d = rw d refl

sides : {G : Type 0} (d : Dir) → (d ≡ In → G) → (d ≡ Out → G) → G
sides In f g = f refl
sides Out f g = g refl

named_each : (P : Name → Type 0) (ps : List Pin) (k : ℕ) (p : Pin) → Each P (pin_names ps) → slice_get ps k ≡ Some p → P p.name
named_each P [] k p h e = cc
named_each P (q ∷ ps) zero p h e = subst P (ap (λ r. r.name) (same_Some q p e)) h.0
named_each P (q ∷ ps) (suc k) p h e = named_each P ps k p h.1 e

-- Inputs

pub NotClock : Port → Type 0
NotClock p = p.name ≡ clock → ⊥

pub inputs-append : (ps qs : List Port) → Each NotClock ps → inputs_among (ps ++ qs) ≡ inputs_among ps ++ inputs_among qs
unfolding NotClock
inputs-append [] qs h = refl
inputs-append (p ∷ ps) qs h = sides p.dir
    (λ d. keeps_input p (ps ++ qs) d h.0 ∙ ap (λ xs. pin_of p ∷ xs) (inputs-append ps qs h.1) ∙ ap (λ xs. xs ++ inputs_among qs) (sym (keeps_input p ps d h.0)))
    (λ d. drops_output p (ps ++ qs) d ∙ inputs-append ps qs h.1 ∙ ap (λ xs. xs ++ inputs_among qs) (sym (drops_output p ps d)))

pub inputs-map_input : (ps : List Pin) → Each NotClock (map input ps) → inputs_among (map input ps) ≡ ps
unfolding NotClock
inputs-map_input [] h = refl
inputs-map_input (p ∷ ps) h = keeps_input (input p) (map input ps) refl h.0 ∙ ap (λ xs. p ∷ xs) (inputs-map_input ps h.1)

pub inputs-map_output : (os : List Outlet) → inputs_among (map output os) ≡ []
inputs-map_output [] = refl
inputs-map_output (o ∷ os) = drops_output (output o) (map output os) refl ∙ inputs-map_output os

inputs-fields : (views : List View) (es : List (ℕ × Field)) → Each NotClock (flat_map (field_ports views) es) → inputs_among (flat_map (field_ports views) es) ≡ flat_map (field_pins views) es
inputs-fields views [] h = refl
inputs-fields views (e ∷ es) h =
    let here : Each NotClock (field_ports views e) = Each-left NotClock (field_ports views e) (flat_map (field_ports views) es) h in
    let rest : Each NotClock (flat_map (field_ports views) es) = Each-right NotClock (field_ports views e) (flat_map (field_ports views) es) h in
    let pins : Each NotClock (map input (field_pins views e)) = Each-left NotClock (map input (field_pins views e)) (map output (field_outlets e)) here in
    inputs-append (field_ports views e) (flat_map (field_ports views) es) here
    ∙ ap (λ xs. xs ++ inputs_among (flat_map (field_ports views) es)) (inputs-append (map input (field_pins views e)) (map output (field_outlets e)) pins)
    ∙ ap (λ xs. xs ++ inputs_among (map output (field_outlets e)) ++ inputs_among (flat_map (field_ports views) es)) (inputs-map_input (field_pins views e) pins)
    ∙ ap (λ xs. field_pins views e ++ xs ++ inputs_among (flat_map (field_ports views) es)) (inputs-map_output (field_outlets e))
    ∙ ap (λ xs. xs ++ inputs_among (flat_map (field_ports views) es)) (append-nil (field_pins views e))
    ∙ ap (λ xs. field_pins views e ++ xs) (inputs-fields views es rest)

-- the bus's pins without its clock
abbrev pub bus_pins : List Pin
bus_pins = pin (codes "PRESETn") 1 ∷ pin (codes "PADDR") 32 ∷ pin (codes "PSEL") 1 ∷ pin (codes "PENABLE") 1 ∷ pin (codes "PWRITE") 1 ∷ pin (codes "PWDATA") 32 ∷ []

five : (a b c d e : List Port) → Each NotClock (a ++ b ++ c ++ d ++ e) → inputs_among (a ++ b ++ c ++ d ++ e) ≡ inputs_among a ++ inputs_among b ++ inputs_among c ++ inputs_among d ++ inputs_among e
five a b c d e h =
    let h4 : Each NotClock (a ++ b ++ c ++ d) = Each-left NotClock (a ++ b ++ c ++ d) e h in
    let h3 : Each NotClock (a ++ b ++ c) = Each-left NotClock (a ++ b ++ c) d h4 in
    let h2 : Each NotClock (a ++ b) = Each-left NotClock (a ++ b) c h3 in
    let h1 : Each NotClock a = Each-left NotClock a b h2 in
    inputs-append (a ++ b ++ c ++ d) e h4 ∙ ap (λ xs. xs ++ inputs_among e) (inputs-append (a ++ b ++ c) d h3
    ∙ ap (λ xs. xs ++ inputs_among d) (inputs-append (a ++ b) c h2 ∙ ap (λ xs. xs ++ inputs_among c) (inputs-append a b h1)))

pub names_each : (ps : List Port) → Each (λ m. m ≡ clock → ⊥) (port_names ps) → Each NotClock ps
unfolding NotClock
names_each [] h = tt
names_each (p ∷ ps) h = (h.0, names_each ps h.1)

module _ (b : Block) (sound : IsSound b) where
  abbrev root : List Port
  root = map input (signal_pins true b.signals)

  abbrev tree : List Port
  tree = map input (signal_pins false b.signals)

  abbrev fields : List Port
  fields = flat_map (field_ports b.views) (enumerate_from 0 b.fields)

  abbrev aliases : List Port
  aliases = map input (flat_map view_pins (filter (λ v. v.alias) b.views))

  abbrev regs : List Port
  regs = map output (flat_map reg_outlets (enumerate_from 0 b.regs))

  -- the ports behind the clock
  others : List Port
  others = map input bus_pins ++ bus_outputs ++ root ++ tree ++ fields ++ aliases ++ regs

  others_not_clock : Each NotClock others
  unfolding others
  others_not_clock = let a : Apart (port_names (ports b)) = port_names_apart b sound in names_each (map input bus_pins ++ bus_outputs ++ root ++ tree ++ fields ++ aliases ++ regs) a.0

  pub input_pins_are : input_pins b ≡ bus_pins ++ signal_pins true b.signals ++ signal_pins false b.signals ++ flat_map (field_pins b.views) (enumerate_from 0 b.fields) ++ flat_map view_pins (filter (λ v. v.alias) b.views)
  unfolding others
  input_pins_are =
      let h = others_not_clock in
      let bus : List Port = map input bus_pins ++ bus_outputs in
      let h5 : Each NotClock (bus ++ root ++ tree ++ fields ++ aliases) = Each-left NotClock (bus ++ root ++ tree ++ fields ++ aliases) regs h in
      let h4 : Each NotClock (bus ++ root ++ tree ++ fields) = Each-left NotClock (bus ++ root ++ tree ++ fields) aliases h5 in
      let h3 : Each NotClock (bus ++ root ++ tree) = Each-left NotClock (bus ++ root ++ tree) fields h4 in
      let r = inputs-map_input (signal_pins true b.signals) (Each-right NotClock bus root (Each-left NotClock (bus ++ root) tree h3)) in
      let t = inputs-map_input (signal_pins false b.signals) (Each-right NotClock (bus ++ root) tree h3) in
      let f = inputs-fields b.views (enumerate_from 0 b.fields) (Each-right NotClock (bus ++ root ++ tree) fields h4) in
      let a = inputs-map_input (flat_map view_pins (filter (λ v. v.alias) b.views)) (Each-right NotClock (bus ++ root ++ tree ++ fields) aliases h5) in
      let g = inputs-map_output (flat_map reg_outlets (enumerate_from 0 b.regs)) in
      inputs-append (bus ++ root ++ tree ++ fields ++ aliases) regs h5
      ∙ ap (λ xs. xs ++ inputs_among regs) (five bus root tree fields aliases h5)
      ∙ ap (λ xs. inputs_among bus ++ xs ++ inputs_among tree ++ inputs_among fields ++ inputs_among aliases ++ inputs_among regs) r
      ∙ ap (λ xs. inputs_among bus ++ signal_pins true b.signals ++ xs ++ inputs_among fields ++ inputs_among aliases ++ inputs_among regs) t
      ∙ ap (λ xs. inputs_among bus ++ signal_pins true b.signals ++ signal_pins false b.signals ++ xs ++ inputs_among aliases ++ inputs_among regs) f
      ∙ ap (λ xs. inputs_among bus ++ signal_pins true b.signals ++ signal_pins false b.signals ++ flat_map (field_pins b.views) (enumerate_from 0 b.fields) ++ xs ++ inputs_among regs) a
      ∙ ap (λ xs. inputs_among bus ++ signal_pins true b.signals ++ signal_pins false b.signals ++ flat_map (field_pins b.views) (enumerate_from 0 b.fields) ++ flat_map view_pins (filter (λ v. v.alias) b.views) ++ xs) g
      ∙ append-nil (bus_pins ++ signal_pins true b.signals ++ signal_pins false b.signals ++ flat_map (field_pins b.views) (enumerate_from 0 b.fields) ++ flat_map view_pins (filter (λ v. v.alias) b.views))

  pub block_not_clock : Each NotClock (block_ports b)
  unfolding others
  block_not_clock = Each-right NotClock (map input bus_pins ++ bus_outputs) (block_ports b) others_not_clock

  -- those of the bus come first
  pub block_inputs : input_pins b ≡ bus_pins ++ inputs_among (block_ports b)
  unfolding others
  block_inputs = inputs-append (map input bus_pins ++ bus_outputs) (block_ports b) (Each-left NotClock (map input bus_pins ++ bus_outputs) (block_ports b) others_not_clock)

-- By place

names_among : (P : Name → Type 0) (ps : List Port) → Each P (port_names ps) → Each P (pin_names (inputs_among ps))
names_among P [] h = tt
names_among P (p ∷ ps) h =
    let rest : Each P (pin_names (inputs_among ps)) = names_among P ps h.1 in
    let skip = λ (e : inputs_among (p ∷ ps) ≡ inputs_among ps). subst (λ xs. Each P (pin_names xs)) (sym e) rest in
    let take : (p.name ≡ clock → ⊥) → p.dir ≡ In → Each P (pin_names (inputs_among (p ∷ ps))) = λ n d. subst (λ xs. Each P (pin_names xs)) (sym (keeps_input p ps d n)) (h.0, rest) in
    sides p.dir
    (λ d. by_cases (bytes_eq p.name clock) (λ t. skip (drops_clock p ps d (bytes_eq-to p.name clock t)))
    (λ f. take (λ e. let t : bytes_eq p.name clock ≡ true = bytes_eq-from p.name clock e in cc) d))
    (λ d. skip (drops_output p ps d))

pub inputs_apart : (ps : List Port) → Apart (port_names ps) → Apart (pin_names (inputs_among ps))
inputs_apart [] h = tt
inputs_apart (p ∷ ps) h =
    let rest : Apart (pin_names (inputs_among ps)) = inputs_apart ps h.1 in
    let skip = λ (e : inputs_among (p ∷ ps) ≡ inputs_among ps). subst (λ xs. Apart (pin_names xs)) (sym e) rest in
    let take : (p.name ≡ clock → ⊥) → p.dir ≡ In → Apart (pin_names (inputs_among (p ∷ ps))) = λ n d. subst (λ xs. Apart (pin_names xs)) (sym (keeps_input p ps d n)) (names_among (λ m. m ≡ p.name → ⊥) ps h.0, rest) in
    sides p.dir
    (λ d. by_cases (bytes_eq p.name clock) (λ t. skip (drops_clock p ps d (bytes_eq-to p.name clock t)))
    (λ f. take (λ e. let t : bytes_eq p.name clock ≡ true = bytes_eq-from p.name clock e in cc) d))
    (λ d. skip (drops_output p ps d))

pub input_names_apart : (b : Block) → IsSound b → Apart (pin_names (input_pins b))
input_names_apart b sound = inputs_apart (ports b) (port_names_apart b sound)

-- a pin's number is that at its place
pub by_name-at : (ps : List Pin) (xs : List ℕ) (k : ℕ) (p : Pin) → Apart (pin_names ps) → slice_get ps k ≡ Some p → by_name ps xs p.name ≡ get_or xs k 0
by_name-at [] xs k p a e = cc
by_name-at (q ∷ ps) [] k p a e = refl
by_name-at (q ∷ ps) (x ∷ xs) zero p a e =
    let t : bytes_eq q.name p.name ≡ true = bytes_eq-from q.name p.name (ap (λ r. r.name) (same_Some q p e)) in rw t refl
by_name-at (q ∷ ps) (x ∷ xs) (suc k) p a e =
    let other : p.name ≡ q.name → ⊥ = named_each (λ m. m ≡ q.name → ⊥) ps k p a.0 e in
    let f : bytes_eq q.name p.name ≡ false = bytes_eq-not q.name p.name (λ s. other (sym s)) in
    ap (λ c. if c then x else by_name ps xs p.name) f ∙ by_name-at ps xs k p a.1 e

pub pin_by_place : (b : Block) → IsSound b → (k : ℕ) (p : Pin) (x : List ℕ) → slice_get (input_pins b) k ≡ Some p → pins_of b x p.name ≡ get_or x k 0
pin_by_place b sound k p x e = by_name-at (input_pins b) x k p (input_names_apart b sound) e

-- Outputs

keeps_output : (p : Port) (ps : List Port) → p.dir ≡ Out → outputs_among (p ∷ ps) ≡ pin_of p ∷ outputs_among ps
keeps_output p ps d = rw d refl

drops_input : (p : Port) (ps : List Port) → p.dir ≡ In → outputs_among (p ∷ ps) ≡ outputs_among ps
drops_input p ps d = rw d refl

pub outputs-append : (ps qs : List Port) → outputs_among (ps ++ qs) ≡ outputs_among ps ++ outputs_among qs
outputs-append [] qs = refl
outputs-append (p ∷ ps) qs = sides p.dir
    (λ d. drops_input p (ps ++ qs) d ∙ outputs-append ps qs ∙ ap (λ xs. xs ++ outputs_among qs) (sym (drops_input p ps d)))
    (λ d. keeps_output p (ps ++ qs) d ∙ ap (λ xs. pin_of p ∷ xs) (outputs-append ps qs) ∙ ap (λ xs. xs ++ outputs_among qs) (sym (keeps_output p ps d)))

pub outputs-map_input : (ps : List Pin) → outputs_among (map input ps) ≡ []
outputs-map_input [] = refl
outputs-map_input (p ∷ ps) = drops_input (input p) (map input ps) refl ∙ outputs-map_input ps

abbrev pub outlet_pin : Outlet → Pin
outlet_pin o = record { name = o.name; width = o.width }

pub outputs-map_output : (os : List Outlet) → outputs_among (map output os) ≡ map outlet_pin os
outputs-map_output [] = refl
outputs-map_output (o ∷ os) = keeps_output (output o) (map output os) refl ∙ ap (λ xs. outlet_pin o ∷ xs) (outputs-map_output os)

outputs-fields : (views : List View) (es : List (ℕ × Field)) → outputs_among (flat_map (field_ports views) es) ≡ map outlet_pin (flat_map field_outlets es)
outputs-fields views [] = refl
outputs-fields views (e ∷ es) =
    outputs-append (field_ports views e) (flat_map (field_ports views) es)
    ∙ ap (λ xs. xs ++ outputs_among (flat_map (field_ports views) es)) (outputs-append (map input (field_pins views e)) (map output (field_outlets e))
    ∙ ap (λ xs. xs ++ outputs_among (map output (field_outlets e))) (outputs-map_input (field_pins views e)) ∙ outputs-map_output (field_outlets e))
    ∙ ap (λ xs. map outlet_pin (field_outlets e) ++ xs) (outputs-fields views es) ∙ sym (map-append outlet_pin (field_outlets e) (flat_map field_outlets es))

-- the bus's outputs
abbrev pub bus_shown : List Pin
bus_shown = pin (codes "PREADY") 1 ∷ pin (codes "PRDATA") 32 ∷ pin (codes "PSLVERR") 1 ∷ []

five_outputs : (a b c d e : List Port) → outputs_among (a ++ b ++ c ++ d ++ e) ≡ outputs_among a ++ outputs_among b ++ outputs_among c ++ outputs_among d ++ outputs_among e
five_outputs a b c d e =
    outputs-append (a ++ b ++ c ++ d) e ∙ ap (λ xs. xs ++ outputs_among e) (outputs-append (a ++ b ++ c) d
    ∙ ap (λ xs. xs ++ outputs_among d) (outputs-append (a ++ b) c ∙ ap (λ xs. xs ++ outputs_among c) (outputs-append a b)))

pub block_outputs : (b : Block) → outputs_among (block_ports b) ≡ map outlet_pin (outlets b)
block_outputs b =
    let root = map input (signal_pins true b.signals) in
    let tree = map input (signal_pins false b.signals) in
    let fields = flat_map (field_ports b.views) (enumerate_from 0 b.fields) in
    let aliases = map input (flat_map view_pins (filter (λ v. v.alias) b.views)) in
    let regs = map output (flat_map reg_outlets (enumerate_from 0 b.regs)) in
    five_outputs root tree fields aliases regs
    ∙ ap (λ xs. xs ++ outputs_among tree ++ outputs_among fields ++ outputs_among aliases ++ outputs_among regs) (outputs-map_input (signal_pins true b.signals))
    ∙ ap (λ xs. xs ++ outputs_among fields ++ outputs_among aliases ++ outputs_among regs) (outputs-map_input (signal_pins false b.signals))
    ∙ ap (λ xs. xs ++ outputs_among aliases ++ outputs_among regs) (outputs-fields b.views (enumerate_from 0 b.fields))
    ∙ ap (λ xs. map outlet_pin (flat_map field_outlets (enumerate_from 0 b.fields)) ++ xs ++ outputs_among regs) (outputs-map_input (flat_map view_pins (filter (λ v. v.alias) b.views)))
    ∙ ap (λ xs. xs ++ outputs_among regs) (append-nil (map outlet_pin (flat_map field_outlets (enumerate_from 0 b.fields))))
    ∙ ap (λ xs. map outlet_pin (flat_map field_outlets (enumerate_from 0 b.fields)) ++ xs) (outputs-map_output (flat_map reg_outlets (enumerate_from 0 b.regs)))
    ∙ sym (map-append outlet_pin (flat_map field_outlets (enumerate_from 0 b.fields)) (flat_map reg_outlets (enumerate_from 0 b.regs)))

pub output_pins_are : (b : Block) → outputs_among (ports b) ≡ bus_shown ++ map outlet_pin (outlets b)
output_pins_are b = outputs-append (map input bus_inputs ++ bus_outputs) (block_ports b) ∙ ap (λ xs. bus_shown ++ xs) (block_outputs b)
