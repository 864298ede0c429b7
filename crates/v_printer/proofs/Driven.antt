-- Each net of a printed module has one driver.
use Rattle.std.specs.List.{AllByRecursion, IsDistinct, list_all}
use Rattle.std.specs.Str.{bytes_eq}
use Rattle.std.proofs.Common.{suc, ◌≡◌, ℕ, ◌+◌, ◌<◌, ◌≤◌, ◌^◌, Bool, true, false, not, ◌&&◌, ◌||◌, if◌then◌else◌, nat_le, List, [], ◌∷◌, ◌++◌, map, filter, length, slice_get, Option, Some, None, is_some, refl, ap, ◌∙◌, subst, arith, append-nil}
use Rattle.std.proofs.lemmas.Bool.{and_parts}
use Rattle.std.proofs.lemmas.Bool.Decides.{nat_tests}
use Rattle.std.proofs.lemmas.List.{map-append}
use Rattle.rtl_net.specs.Names.{clock}
use Rattle.rtl_net.specs.Net.{Net, width_in, widths, registers_of, undriven}
use Rattle.rtl_net.specs.Value.{expr_width}
use Rattle.rtl_net.specs.Ports.{seat_names}
use Rattle.rtl_net.specs.Made.{IsMade}
use Rattle.rtl_net.specs.Run as run
use Rattle.rtl_net.specs.Run.{seat_pin, by_input, by_output}
use Rattle.rtl_net.specs.declared.node.Id.{Id}
use Rattle.rtl_net.specs.declared.node.NetExpr.{NetExpr}
use Rattle.rtl_net.specs.declared.node.NetNode.{NetNode}
use Rattle.rtl_net.specs.declared.node.NetNode.TheVariants.{Input, Register, Wire}
use Rattle.rtl_net.specs.declared.node.NetReset.{NetReset}
use Rattle.rtl_net.specs.declared.node.NetReset.TheVariants as resets
use Rattle.rtl_net.specs.declared.node.Seat.{Seat}
use Rattle.rtl_net.specs.declared.node.Occupant.{Occupant}
use Rattle.rtl_net.specs.declared.node.Occupant.TheVariants as takes
use Rattle.rtl_net.proofs.Places.{slice_get-within}
use Rattle.rtl_net.proofs.Widths.{width_at, width_most}
use Rattle.rtl_net.proofs.Making.{wire_width}
use Rattle.rtl_net.proofs.OneRun.{none_waits}
use Rattle.v_design.specs.Lexemes.{among}
use Rattle.v_design.specs.Tree.{Statement, Assign, Plain, Whole, port_widths, decl_widths, is_width}
use Rattle.v_design.specs.Design.{module_of, port_pin, decl_pin, is_input}
use Rattle.v_design.specs.Design as design
use Rattle.v_design.specs.WellFormed.{Given, same_kind, port_kind, distinct, names, nets, target, driven}
use Rattle.v_printer.specs.Module.{numbered, wire_name, node_name, side_of, port_of, ports, term_of, register_decl, wire_decl, decls, wire_stmt, shown_stmt, output_stmt, block, register_stmt, stmts, tree_of}
use Rattle.v_printer.proofs.Entries.{Entry, Port, entry_name, entry_kind, entry_net, entries, register_entry, wire_entry, nets_are}
use Rattle.v_printer.proofs.Places.{Apart, distinct_append, is_distinct, turned, all_append, all_map, all_of, list_all_of, numbered_all, numbered_has, any_at, place_left, place_right}
use Rattle.plain_lemmas.proofs.Lists.{bytes_eq-itself as same_bytes, filter-append, get-map_at as place_map}
use Rattle.v_printer.proofs.Named.{wire_names, names_differ, seats_regs, seats_wires, regs_wires, wires_distinct}

-- the targets of the statements
wire_targets : (net : Net) (k : ℕ) (ns : List NetNode) → map target (numbered (wire_stmt net) k ns) ≡ wire_names k ns
wire_targets net k [] = refl
wire_targets net k (Input name w ∷ ns) = wire_targets net (k + 1) ns
wire_targets net k (Register name w reset next ∷ ns) = wire_targets net (k + 1) ns
wire_targets net k (Wire e ∷ ns) = ap (λ l. wire_name k ∷ l) (wire_targets net (k + 1) ns)

abbrev out_names : List Seat → List (List ℕ)
out_names [] = []
out_names (s ∷ ss) = if by_output s.taken then s.name ∷ out_names ss else out_names ss

output_targets : (net : Net) (k : ℕ) (ss : List Seat) → map target (numbered (output_stmt net) k ss) ≡ out_names ss
output_targets net k [] = refl
output_targets net k (s ∷ ss) = go s.taken (output_targets net (k + 1) ss)
  where
    go : (t : Option Occupant) → map target (numbered (output_stmt net) (k + 1) ss) ≡ out_names ss
        → map target (shown_stmt net s.name t ++ numbered (output_stmt net) (k + 1) ss) ≡ (if by_output t then s.name ∷ out_names ss else out_names ss)
    go None e = e
    go (Some (takes.Input id)) e = e
    go (Some (takes.Output from)) e = ap (λ l. s.name ∷ l) e

block_target : (net : Net) (name : List ℕ) (w : ℕ) (reset : NetReset) (next : Id) → target (block net name w reset next) ≡ name
block_target net name w resets.None next = refl
block_target net name w (resets.Async pin low value) next = refl

abbrev AllDriven : List NetNode → Type 0
AllDriven ns = (i : ℕ) (name : List ℕ) (w : ℕ) (reset : NetReset) → slice_get ns i ≡ Some (Register name w reset None) → ⊥

register_targets : (net : Net) (k : ℕ) (ns : List NetNode) → AllDriven ns → map target (numbered (register_stmt net) k ns) ≡ map (λ r. r.name) (registers_of ns)
register_targets net k [] d = refl
register_targets net k (Input name w ∷ ns) d = register_targets net (k + 1) ns (λ i n u r h. d (suc i) n u r h)
register_targets net k (Register name w reset None ∷ ns) d = absurd (d 0 name w reset refl)
register_targets net k (Register name w reset (Some next) ∷ ns) d =
    ap (λ x. x ∷ map target (numbered (register_stmt net) (k + 1) ns)) (block_target net name w reset next) ∙ ap (λ l. name ∷ l) (register_targets net (k + 1) ns (λ i n u r h. d (suc i) n u r h))
register_targets net k (Wire e ∷ ns) d = register_targets net (k + 1) ns (λ i n u r h. d (suc i) n u r h)

-- what holds of the seats holds of the outputs
outs_of : (P : List ℕ → Type 0) (ss : List Seat) → AllByRecursion P (seat_names ss) → AllByRecursion P (out_names ss)
outs_of P [] h = tt
outs_of P (s ∷ ss) h = go (by_output s.taken) (outs_of P ss h.1)
  where
    go : (b : Bool) → AllByRecursion P (out_names ss) → AllByRecursion P (if b then s.name ∷ out_names ss else out_names ss)
    go true p = (h.0, p)
    go false p = p

outs_distinct : (ss : List Seat) → IsDistinct bytes_eq (seat_names ss) → IsDistinct bytes_eq (out_names ss)
unfolding IsDistinct
outs_distinct [] d = tt
outs_distinct (s ∷ ss) d = elim (by_output s.taken) as (λ (b : Bool). IsDistinct bytes_eq (if b then s.name ∷ out_names ss else out_names ss)) [
  | true ↦ (outs_of (λ m. bytes_eq s.name m ≡ false) ss d.0, outs_distinct ss d.1)
  | false ↦ outs_distinct ss d.1
]

names_entries : (es : List Entry) → names (map entry_net es) ≡ map entry_name es
names_entries [] = refl
names_entries (e ∷ es) = ap (λ l. entry_name e ∷ l) (names_entries es)

apart_append : (n : List ℕ) (xs ys : List (List ℕ)) → Apart xs n → Apart ys n → Apart (xs ++ ys) n
apart_append n xs ys p q = all_append (λ m. bytes_eq n m ≡ false) xs ys p q

module _ (net : Net) (made : IsMade net) (few : length net.nodes < 2 ^ 64) (all_driven : undriven net.nodes ≡ 0) where
  abbrev regs : List (List ℕ)
  regs = map (λ r. r.name) (registers_of net.nodes)

  abbrev targets : List (List ℕ)
  targets = map target (stmts net)

  driven_each : AllDriven net.nodes
  driven_each i name w reset h = none_waits net.nodes i name w reset all_driven h

  targets_are : targets ≡ wire_names 0 net.nodes ++ (out_names net.seats ++ regs)
  targets_are =
      map-append target (numbered (wire_stmt net) 0 net.nodes) (numbered (output_stmt net) 0 net.seats ++ numbered (register_stmt net) 0 net.nodes)
      ∙ (ap (λ l. l ++ map target (numbered (output_stmt net) 0 net.seats ++ numbered (register_stmt net) 0 net.nodes)) (wire_targets net 0 net.nodes)
      ∙ ap (λ l. wire_names 0 net.nodes ++ l) (map-append target (numbered (output_stmt net) 0 net.seats) (numbered (register_stmt net) 0 net.nodes)
      ∙ (ap (λ l. l ++ map target (numbered (register_stmt net) 0 net.nodes)) (output_targets net 0 net.seats) ∙ ap (λ l. out_names net.seats ++ l) (register_targets net 0 net.nodes driven_each))))

  outs_regs : AllByRecursion (Apart regs) (out_names net.seats)
  outs_regs = outs_of (Apart regs) net.seats (seats_regs net made few)

  outs_wires : AllByRecursion (Apart (wire_names 0 net.nodes)) (out_names net.seats)
  outs_wires = outs_of (Apart (wire_names 0 net.nodes)) net.seats (seats_wires net made few)

  wires_outs : AllByRecursion (Apart (out_names net.seats)) (wire_names 0 net.nodes)
  wires_outs = turned (wire_names 0 net.nodes) (out_names net.seats) outs_wires

  wires_regs : AllByRecursion (Apart regs) (wire_names 0 net.nodes)
  wires_regs = turned (wire_names 0 net.nodes) regs (regs_wires net made few)

  zipped : (xs : List (List ℕ)) → AllByRecursion (Apart (out_names net.seats)) xs → AllByRecursion (Apart regs) xs → AllByRecursion (Apart (out_names net.seats ++ regs)) xs
  zipped [] p q = tt
  zipped (x ∷ xs) p q = (apart_append x (out_names net.seats) regs p.0 q.0, zipped xs p.1 q.1)

  pub single : distinct targets ≡ true
  single = ap distinct targets_are ∙ is_distinct (wire_names 0 net.nodes ++ (out_names net.seats ++ regs))
      (distinct_append (wire_names 0 net.nodes) (out_names net.seats ++ regs) (wires_distinct net made few)
      (distinct_append (out_names net.seats) regs (outs_distinct net.seats made.names.seats_differ) made.names.registers_differ outs_regs)
      (zipped (wire_names 0 net.nodes) wires_outs wires_regs))

  pub once : distinct (names (nets (tree_of net))) ≡ true
  once = ap (λ ns. distinct (names ns)) (nets_are net) ∙ (ap distinct (names_entries (entries net)) ∙ is_distinct (map entry_name (entries net)) (names_differ net made few))

  -- a statement's place
  abbrev pub Stated : Statement → Type 0
  Stated s = (j : ℕ) × (slice_get (stmts net) j ≡ Some s)

  pub wire_stated : (k : ℕ) (e : NetExpr) → slice_get net.nodes k ≡ Some (Wire e) → Stated (Assign (wire_name k) (term_of net e))
  wire_stated k e h = let s = Assign (wire_name k) (term_of net e) in let r = numbered_has (wire_stmt net) net.nodes k (Wire e) s h refl in (r.0, place_left _ _ r.0 s r.1)

  pub output_stated : (i : ℕ) (s : Seat) (from : Id) → slice_get net.seats i ≡ Some s → s.taken ≡ Some (takes.Output from) → Stated (Assign s.name (Plain (Whole (node_name net.nodes from.0))))
  output_stated i s from h t =
      let x = Assign s.name (Plain (Whole (node_name net.nodes from.0))) in
      let r = numbered_has (output_stmt net) net.seats i s x h (ap (shown_stmt net s.name) t) in
      place_right (numbered (wire_stmt net) 0 net.nodes) _ r.0 x (place_left _ _ r.0 x r.1)

  pub block_stated : (k : ℕ) (name : List ℕ) (w : ℕ) (reset : NetReset) (next : Id) → slice_get net.nodes k ≡ Some (Register name w reset (Some next)) → Stated (block net name w reset next)
  block_stated k name w reset next h =
      let x = block net name w reset next in
      let r = numbered_has (register_stmt net) net.nodes k (Register name w reset (Some next)) x h refl in
      let q = place_right (numbered (output_stmt net) 0 net.seats) _ r.0 x r.1 in
      place_right (numbered (wire_stmt net) 0 net.nodes) _ q.0 x q.1

  is_target : (s : Statement) → Stated s → among targets (target s) ≡ true
  is_target s p = any_at (λ w. bytes_eq w (target s)) targets p.0 (target s) (place_map target (stmts net) p.0 s p.1) (same_bytes (target s))

  -- a net is an input or has a driver
  abbrev HasDriver : Entry → Type 0
  HasDriver e = (same_kind (entry_kind e) Given || among targets (entry_name e)) ≡ true

  or-right : (a b : Bool) → b ≡ true → (a || b) ≡ true
  or-right true b h = refl
  or-right false b h = h

  seat_driven : (i : ℕ) (s : Seat) → slice_get net.seats i ≡ Some s → (t : Option Occupant) → s.taken ≡ t → HasDriver (Port s)
  seat_driven i s h None e = ap (λ x. same_kind (port_kind (side_of x)) Given || among targets s.name) e
  seat_driven i s h (Some (takes.Input id)) e = ap (λ x. same_kind (port_kind (side_of x)) Given || among targets s.name) e
  seat_driven i s h (Some (takes.Output from)) e = or-right (same_kind (port_kind (side_of s.taken)) Given) (among targets s.name) (is_target _ (output_stated i s from h e))

  register_driven : (k : ℕ) (n : NetNode) → slice_get net.nodes k ≡ Some n → AllByRecursion HasDriver (register_entry k n)
  register_driven k (Input name w) h = tt
  register_driven k (Register name w reset None) h = absurd (driven_each k name w reset h)
  register_driven k (Register name w reset (Some next)) h = (subst (λ x. among targets x ≡ true) (block_target net name w reset next) (is_target _ (block_stated k name w reset next h)), tt)
  register_driven k (Wire e) h = tt

  wire_driven : (k : ℕ) (n : NetNode) → slice_get net.nodes k ≡ Some n → AllByRecursion HasDriver (wire_entry net k n)
  wire_driven k (Input name w) h = tt
  wire_driven k (Register name w reset next) h = tt
  wire_driven k (Wire e) h = (is_target _ (wire_stated k e h), tt)

  entries_driven : AllByRecursion HasDriver (entries net)
  entries_driven = all_append HasDriver (map Port net.seats) _ (all_map HasDriver Port net.seats (all_of (λ s. HasDriver (Port s)) net.seats (λ i s h. seat_driven i s h s.taken refl)))
      (all_append HasDriver (numbered register_entry 0 net.nodes) _ (numbered_all register_entry HasDriver net.nodes register_driven) (numbered_all (wire_entry net) HasDriver net.nodes wire_driven))

  pub all_have : driven (nets (tree_of net)) targets ≡ true
  all_have = ap (λ ns. driven ns targets) (nets_are net) ∙ list_all_of (λ n. same_kind n.kind Given || among targets n.name) (map entry_net (entries net)) (all_map (λ n. (same_kind n.kind Given || among targets n.name) ≡ true) entry_net (entries net) entries_driven)

-- the widths of the declared nets
in_range : (w : ℕ) → 0 < w → w ≤ 128 → is_width w ≡ true
in_range w p q = two (nat_le 1 w) (nat_le w 128) (least w p) (most w q)
  where
    two : (a b : Bool) → a ≡ true → b ≡ true → (a && b) ≡ true
    two a b p q = rw (p, q)

    least : (w : ℕ) → 0 < w → nat_le 1 w ≡ true
    least w p = grind (arith, nat_tests)

    most : (w : ℕ) → w ≤ 128 → nat_le w 128 ≡ true
    most w p = grind (arith, nat_tests)

module _ (net : Net) (made : IsMade net) where
  pub register_wide : (k : ℕ) (name : List ℕ) (w : ℕ) (reset : NetReset) (next : Option Id) → slice_get net.nodes k ≡ Some (Register name w reset next) → (0 < w) × (w ≤ 128)
  register_wide k name w reset next h = (made.nodes k _ h).0

  pub wire_wide : (k : ℕ) (e : NetExpr) → slice_get net.nodes k ≡ Some (Wire e) → (0 < width_in net (record { 0 = k })) × (width_in net (record { 0 = k }) ≤ 128)
  wire_wide k e h =
      let m = made.nodes k (Wire e) h in
      let a : width_in net (record { 0 = k }) ≡ expr_width (widths net) e = width_at net made k (Wire e) h (slice_get-within net.nodes k (Wire e) h) in
      let p = wire_width net e (width_most net made) m.0 in
      (omega (arith, p.0), omega (arith, p.1))

  register_ranges : (k : ℕ) (n : NetNode) → slice_get net.nodes k ≡ Some n → AllByRecursion (λ d. is_width d.width ≡ true) (register_decl k n)
  register_ranges k (Input name w) h = tt
  register_ranges k (Register name w reset next) h = let r = register_wide k name w reset next h in (in_range w r.0 r.1, tt)
  register_ranges k (Wire e) h = tt

  wire_ranges : (k : ℕ) (n : NetNode) → slice_get net.nodes k ≡ Some n → AllByRecursion (λ d. is_width d.width ≡ true) (wire_decl net k n)
  wire_ranges k (Input name w) h = tt
  wire_ranges k (Register name w reset next) h = tt
  wire_ranges k (Wire e) h = let r = wire_wide k e h in (in_range _ r.0 r.1, tt)

  pub ranges : (port_widths (ports net) && decl_widths (decls net)) ≡ true
  ranges = two (port_widths (ports net)) (decl_widths (decls net))
      (list_all_of (λ p. is_width p.width) (ports net) (all_map (λ p. is_width p.width ≡ true) port_of net.seats (all_of (λ s. is_width s.width ≡ true) net.seats (λ i s h. let r = (made.seats i s h).0 in in_range s.width r.0 r.1))))
      (list_all_of (λ d. is_width d.width) (decls net) (all_append (λ d. is_width d.width ≡ true) (numbered register_decl 0 net.nodes) _
      (numbered_all register_decl (λ d. is_width d.width ≡ true) net.nodes register_ranges) (numbered_all (wire_decl net) (λ d. is_width d.width ≡ true) net.nodes wire_ranges)))
    where
      two : (a b : Bool) → a ≡ true → b ≡ true → (a && b) ≡ true
      two a b p q = rw (p, q)

-- the pins of the module are the netlist's

kept_registers : (k : ℕ) (ns : List NetNode) → map decl_pin (filter (λ d. d.reg) (numbered register_decl k ns)) ≡ registers_of ns
kept_registers k [] = refl
kept_registers k (Input name w ∷ ns) = kept_registers (k + 1) ns
kept_registers k (Register name w reset next ∷ ns) = ap (λ l. record { name = name; width = w } ∷ l) (kept_registers (k + 1) ns)
kept_registers k (Wire e ∷ ns) = kept_registers (k + 1) ns

no_wires_kept : (net : Net) (k : ℕ) (ns : List NetNode) → filter (λ d. d.reg) (numbered (wire_decl net) k ns) ≡ []
no_wires_kept net k [] = refl
no_wires_kept net k (Input name w ∷ ns) = no_wires_kept net (k + 1) ns
no_wires_kept net k (Register name w reset next ∷ ns) = no_wires_kept net (k + 1) ns
no_wires_kept net k (Wire e ∷ ns) = no_wires_kept net (k + 1) ns

pub registers_are : (net : Net) → design.registers (module_of (tree_of net)) ≡ run.registers net
registers_are net =
    ap (map decl_pin) (filter-append (λ d. d.reg) (numbered register_decl 0 net.nodes) (numbered (wire_decl net) 0 net.nodes)
    ∙ ap (λ l. filter (λ d. d.reg) (numbered register_decl 0 net.nodes) ++ l) (no_wires_kept net 0 net.nodes))
    ∙ (map-append decl_pin (filter (λ d. d.reg) (numbered register_decl 0 net.nodes)) []
    ∙ (append-nil (map decl_pin (filter (λ d. d.reg) (numbered register_decl 0 net.nodes))) ∙ kept_registers 0 net.nodes))

input_side : (t : Option Occupant) → is_some t ≡ true → is_input (side_of t) ≡ by_input t
input_side None h = cc
input_side (Some (takes.Input id)) h = refl
input_side (Some (takes.Output from)) h = refl

output_side : (t : Option Occupant) → not (is_input (side_of t)) ≡ by_output t
output_side None = refl
output_side (Some (takes.Input id)) = refl
output_side (Some (takes.Output from)) = refl

inputs_from : (ss : List Seat) → list_all (λ s. is_some s.taken) ss ≡ true → map port_pin (filter design.is_data_input (map port_of ss)) ≡ map seat_pin (filter run.is_data_input ss)
inputs_from [] h = refl
inputs_from (s ∷ ss) h =
    let r = and_parts (is_some s.taken) (list_all (λ x. is_some x.taken) ss) h in
    ap (λ (b : Bool). map port_pin (if b && not (bytes_eq s.name clock) then port_of s ∷ filter design.is_data_input (map port_of ss) else filter design.is_data_input (map port_of ss))) (input_side s.taken r.0)
    ∙ elim (by_input s.taken && not (bytes_eq s.name clock)) as (λ (b : Bool). map port_pin (if b then port_of s ∷ filter design.is_data_input (map port_of ss) else filter design.is_data_input (map port_of ss))
    ≡ map seat_pin (if b then s ∷ filter run.is_data_input ss else filter run.is_data_input ss)) [
      | true ↦ ap (λ l. seat_pin s ∷ l) (inputs_from ss r.1)
      | false ↦ inputs_from ss r.1
    ]

pub inputs_are : (net : Net) → list_all (λ s. is_some s.taken) net.seats ≡ true → design.inputs (module_of (tree_of net)) ≡ run.inputs net
inputs_are net h = inputs_from net.seats h

outputs_from : (ss : List Seat) → map port_pin (filter design.is_output (map port_of ss)) ≡ map seat_pin (filter run.is_output ss)
outputs_from [] = refl
outputs_from (s ∷ ss) =
    ap (λ (b : Bool). map port_pin (if b then port_of s ∷ filter design.is_output (map port_of ss) else filter design.is_output (map port_of ss))) (output_side s.taken)
    ∙ elim (by_output s.taken) as (λ (b : Bool). map port_pin (if b then port_of s ∷ filter design.is_output (map port_of ss) else filter design.is_output (map port_of ss))
    ≡ map seat_pin (if b then s ∷ filter run.is_output ss else filter run.is_output ss)) [
      | true ↦ ap (λ l. seat_pin s ∷ l) (outputs_from ss)
      | false ↦ outputs_from ss
    ]

pub outputs_are : (net : Net) → design.outputs (module_of (tree_of net)) ≡ run.outputs net
outputs_are net = outputs_from net.seats
