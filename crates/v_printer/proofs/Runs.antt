-- A printed module runs as its netlist does.
use Rattle.std.specs.Bool.{OnTrue}
use Rattle.std.specs.List.{AllByRecursion}
use Rattle.std.proofs.Common.{◌≡◌, ℕ, ◌<◌, ◌^◌, ◌==◌, Bool, true, false, if◌then◌else◌, List, [], ◌∷◌, map, length, slice_get, Option, Some, None, refl, ap, sym, ◌∙◌, arith}
use Rattle.std.proofs.lemmas.Bool.{and_parts}
use Rattle.rtl_net.specs.Value.{At, Values, node_value, under, operands}
use Rattle.rtl_net.specs.Net.{Net, widths, Has, Stands}
use Rattle.rtl_net.specs.Made.{IsMade}
use Rattle.rtl_net.specs.Run as run
use Rattle.rtl_net.specs.Run.{by_input, by_output, NetEdge, NetRun, values_at}
use Rattle.rtl_net.specs.declared.node.Id.{Id}
use Rattle.rtl_net.specs.declared.node.NetExpr.{NetExpr}
use Rattle.rtl_net.specs.declared.node.NetNode.{NetNode}
use Rattle.rtl_net.specs.declared.node.NetNode.TheVariants.{Input, Register, Wire}
use Rattle.rtl_net.specs.declared.node.NetReset.{NetReset}
use Rattle.rtl_net.specs.declared.node.NetReset.TheVariants as resets
use Rattle.rtl_net.specs.declared.node.Seat.{Seat}
use Rattle.rtl_net.specs.declared.node.Occupant.{Occupant}
use Rattle.rtl_net.specs.declared.node.Occupant.TheVariants as takes
use Rattle.rtl_net.proofs.Places.{item_at}
use Rattle.rtl_net.proofs.Values.{expr_value-same}
use Rattle.rtl_net.proofs.Pins.{each_seat_pin, register_at_pin, values_of_same}
use Rattle.rtl_net.proofs.OneRun.{operands_have, reset_has, none_waits, same_refl}
use Rattle.v_design.specs.Tree.{Statement, Assign, Plain, Whole}
use Rattle.v_design.specs.Design.{step_of, module_of}
use Rattle.v_design.specs.Run.{Edge, Run, step_value, next_value, under_reset}
use Rattle.v_printer.specs.Module.{numbered, wire_name, name_if, node_name, term_of, wire_stmt, shown_stmt, output_stmt, block, register_stmt, stmts, tree_of}
use Rattle.v_printer.specs.TextOf.{IsWhole}
use Rattle.v_printer.proofs.Entries.{Entry, Port, Kept_by, Wire_of, entries, look}
use Rattle.v_printer.proofs.Places.{all_append, all_one, all_map, all_at, numbered_all}
use Rattle.plain_lemmas.proofs.Lists.{get-map_at as place_map}
use Rattle.v_printer.proofs.Nodes.{node_entry, seat_placed, found, found_at, ws, wide}
use Rattle.v_printer.proofs.Terms.{value_is}
use Rattle.v_printer.proofs.Driven.{wire_stated, output_stated, block_stated, inputs_are, outputs_are}

-- the value of a net
abbrev seat_value : At → List ℕ → Option Occupant → ℕ
seat_value at name None = 0
seat_value at name (Some (takes.Input id)) = at.ins name
seat_value at name (Some (takes.Output from)) = at.outs name

abbrev entry_value : At → Entry → ℕ
entry_value at (Port s) = seat_value at s.name s.taken
entry_value at (Kept_by name w k) = at.node k
entry_value at (Wire_of w k) = at.node k

module _ (net : Net) (made : IsMade net) (few : length net.nodes < 2 ^ 64) (whole : IsWhole net) where
  abbrev nm : Id → List ℕ
  nm a = node_name net.nodes a.0

  abbrev wss : List ℕ → ℕ
  wss = ws net made few

  node_of : (a : Id) (w : ℕ) → Stands net a w → Has net a
  node_of a w s = (s.below, omega (arith, s.some, s.width))

  -- what a reset does, by the values of nodes and by those of names
  reset_same : (f : ℕ → ℕ) (v : Values) (name : List ℕ) (w : ℕ) (reset : NetReset) (next : Id) (x y : ℕ)
      → ((pin : Id) (low : Bool) (value : ℕ) → reset ≡ resets.Async pin low value → f pin.0 ≡ v (nm pin)) → x ≡ y
      → under f reset x ≡ under_reset v (step_of (block net name w reset next)).reset y
  reset_same f v name w resets.None next x y h e = e
  reset_same f v name w (resets.Async pin low value) next x y h e =
      ap (λ p. if (if low then p == 0 else p == 1) then value else x) (h pin low value refl) ∙ ap (λ z. if (if low then v (nm pin) == 0 else v (nm pin) == 1) then value else z) e

  block_to : (name : List ℕ) (w : ℕ) (reset : NetReset) (next : Id) → (step_of (block net name w reset next)).to ≡ name
  block_to name w resets.None next = refl
  block_to name w (resets.Async pin low value) next = refl

  -- what a block's step says of its register
  step_is : (contents v : Values) (name : List ℕ) (w : ℕ) (reset : NetReset) (next : Id)
      → step_value wss contents v (step_of (block net name w reset next)) ≡ under_reset v (step_of (block net name w reset next)).reset (contents name)
  step_is contents v name w resets.None next = refl
  step_is contents v name w (resets.Async pin low value) next = refl

  next_is : (v : Values) (name : List ℕ) (w : ℕ) (reset : NetReset) (next : Id)
      → next_value wss v (step_of (block net name w reset next)) ≡ under_reset v (step_of (block net name w reset next)).reset (v (nm next))
  next_is v name w resets.None next = refl
  next_is v name w (resets.Async pin low value) next = refl

  moves_block : (after v : Values) (name : List ℕ) (w : ℕ) (reset : NetReset) (next : Id) → after name ≡ next_value wss v (step_of (block net name w reset next))
      → OnTrue (step_of (block net name w reset next)).clocked (after (step_of (block net name w reset next)).to ≡ next_value wss v (step_of (block net name w reset next)))
  moves_block after v name w resets.None next h = h
  moves_block after v name w (resets.Async pin low value) next h = h

  moved_block : (after v : Values) (name : List ℕ) (w : ℕ) (reset : NetReset) (next : Id)
      → OnTrue (step_of (block net name w reset next)).clocked (after (step_of (block net name w reset next)).to ≡ next_value wss v (step_of (block net name w reset next)))
      → after name ≡ next_value wss v (step_of (block net name w reset next))
  moved_block after v name w resets.None next h = h
  moved_block after v name w (resets.Async pin low value) next h = h

  -- from the netlist's edge to the module's
  module _ (contents after : Values) (ins outs : List ℕ) (e : NetEdge net contents ins outs after) where
    abbrev values : Values
    values n = look (entry_value e.at) (entries net) n

    by_entry : (k : ℕ) (n : NetNode) → slice_get net.nodes k ≡ Some n → entry_value e.at (node_entry net k n) ≡ e.at.node k
    by_entry k (Input name w) h = sym (e.edge.nodes k (Input name w) h)
    by_entry k (Register name w reset next) h = refl
    by_entry k (Wire x) h = refl

    node_is : (k : ℕ) (n : NetNode) → slice_get net.nodes k ≡ Some n → e.at.node k ≡ values (node_name net.nodes k)
    node_is k n h = sym (found_at net made few (entry_value e.at) k n h ∙ by_entry k n h)

    has_value : (a : Id) → Has net a → e.at.node a.0 ≡ values (nm a)
    has_value a h = let r = item_at net.nodes a.0 h.0 in node_is a.0 r.0 r.1

    seat_is : (i : ℕ) (s : Seat) → slice_get net.seats i ≡ Some s → values s.name ≡ seat_value e.at s.name s.taken
    seat_is i s h = found net made few (entry_value e.at) (Port s) (seat_placed net made few i s h)

    given_at : (i : ℕ) (s : Seat) → slice_get net.seats i ≡ Some s → (t : Option Occupant) → s.taken ≡ t → run.is_data_input s ≡ true → values s.name ≡ e.at.ins s.name
    given_at i s h None q k = absurd (let z : false ≡ true = sym (ap by_input q) ∙ (and_parts (by_input s.taken) _ k).0 in cc)
    given_at i s h (Some (takes.Input id)) q k = seat_is i s h ∙ ap (seat_value e.at s.name) q
    given_at i s h (Some (takes.Output from)) q k = absurd (let z : false ≡ true = sym (ap by_input q) ∙ (and_parts (by_input s.taken) _ k).0 in cc)

    shown_at : (i : ℕ) (s : Seat) → slice_get net.seats i ≡ Some s → (t : Option Occupant) → s.taken ≡ t → run.is_output s ≡ true → values s.name ≡ e.at.outs s.name
    shown_at i s h None q k = absurd (let z : false ≡ true = sym (ap by_output q) ∙ k in cc)
    shown_at i s h (Some (takes.Input id)) q k = absurd (let z : false ≡ true = sym (ap by_output q) ∙ k in cc)
    shown_at i s h (Some (takes.Output from)) q k = seat_is i s h ∙ ap (seat_value e.at s.name) q

    abbrev Settled : Statement → Type 0
    Settled s = values (step_of s).to ≡ step_value wss contents values (step_of s)

    abbrev Moved : Statement → Type 0
    Moved s = OnTrue (step_of s).clocked (after (step_of s).to ≡ next_value wss values (step_of s))

    wire_settled : (k : ℕ) (x : NetExpr) → slice_get net.nodes k ≡ Some (Wire x) → Settled (Assign (wire_name k) (term_of net x))
    wire_settled k x h =
        let m = made.nodes k (Wire x) h in
        sym (node_is k (Wire x) h ∙ ap (λ n. values (name_if k n)) h) ∙ (e.edge.nodes k (Wire x) h
        ∙ (expr_value-same (widths net) e.at.node (λ i. values (node_name net.nodes i)) x (all_one (Has net) (λ a. e.at.node a.0 ≡ values (nm a)) (operands x) has_value (operands_have net x m.0))
        ∙ sym (value_is net wss (wide net made few) values x m.0)))

    shown_settled : (i : ℕ) (s : Seat) (from : Id) → slice_get net.seats i ≡ Some s → s.taken ≡ Some (takes.Output from) → Settled (Assign s.name (Plain (Whole (nm from))))
    shown_settled i s from h t =
        let g : slice_get net.seats i ≡ Some (record { name = s.name; width = s.width; taken = Some (takes.Output from) }) = h ∙ ap (λ x. Some (record { name = s.name; width = s.width; taken = x })) t in
        let st : Stands net from s.width = (made.seats i _ g).1 in
        seat_is i s h ∙ (ap (seat_value e.at s.name) t ∙ (e.edge.outs i s.name s.width from g ∙ has_value from (node_of from s.width st)))

    pins_same : (w : ℕ) (reset : NetReset) → (k : ℕ) (name : List ℕ) (next : Option Id) → slice_get net.nodes k ≡ Some (Register name w reset next)
        → (pin : Id) (low : Bool) (value : ℕ) → reset ≡ resets.Async pin low value → e.at.node pin.0 ≡ values (nm pin)
    pins_same w reset k name next h pin low value q = has_value pin (reset_has net made w reset (made.nodes k _ h).1 pin low value q)

    block_settled : (k : ℕ) (name : List ℕ) (w : ℕ) (reset : NetReset) (next : Id) → slice_get net.nodes k ≡ Some (Register name w reset (Some next)) → Settled (block net name w reset next)
    block_settled k name w reset next h =
        ap values (block_to name w reset next)
        ∙ (sym (node_is k _ h ∙ ap (λ n. values (name_if k n)) h) ∙ (e.edge.nodes k _ h
        ∙ (reset_same e.at.node values name w reset next (e.at.kept name) (contents name) (pins_same w reset k name (Some next) h)
        (register_at_pin (λ p. e.at.kept p.name ≡ contents p.name) net.nodes k name w reset (Some next) e.kept h)
        ∙ sym (step_is contents values name w reset next))))

    block_moved : (k : ℕ) (name : List ℕ) (w : ℕ) (reset : NetReset) (next : Id) → slice_get net.nodes k ≡ Some (Register name w reset (Some next)) → Moved (block net name w reset next)
    block_moved k name w reset next h =
        let st : Stands net next w = (made.nodes k _ h).3 in
        moves_block after values name w reset next
        (sym (register_at_pin (λ p. e.at.after p.name ≡ after p.name) net.nodes k name w reset (Some next) e.moved h) ∙ (e.edge.nexts k name w reset next h
        ∙ (reset_same e.at.node values name w reset next (e.at.node next.0) (values (nm next)) (pins_same w reset k name (Some next) h) (has_value next (node_of next w st))
        ∙ sym (next_is values name w reset next))))

    abbrev Good : Statement → Type 0
    Good s = Settled s × Moved s

    wires_good : (k : ℕ) (n : NetNode) → slice_get net.nodes k ≡ Some n → AllByRecursion Good (wire_stmt net k n)
    wires_good k (Input name w) h = tt
    wires_good k (Register name w reset next) h = tt
    wires_good k (Wire x) h = ((wire_settled k x h, tt), tt)

    shown_good : (i : ℕ) (s : Seat) → slice_get net.seats i ≡ Some s → (t : Option Occupant) → s.taken ≡ t → AllByRecursion Good (shown_stmt net s.name t)
    shown_good i s h None q = tt
    shown_good i s h (Some (takes.Input id)) q = tt
    shown_good i s h (Some (takes.Output from)) q = ((shown_settled i s from h q, tt), tt)

    blocks_good : (k : ℕ) (n : NetNode) → slice_get net.nodes k ≡ Some n → AllByRecursion Good (register_stmt net k n)
    blocks_good k (Input name w) h = tt
    blocks_good k (Register name w reset None) h = tt
    blocks_good k (Register name w reset (Some next)) h = ((block_settled k name w reset next h, block_moved k name w reset next h), tt)
    blocks_good k (Wire x) h = tt

    all_good : AllByRecursion Good (stmts net)
    all_good = all_append Good (numbered (wire_stmt net) 0 net.nodes) _ (numbered_all (wire_stmt net) Good net.nodes wires_good)
        (all_append Good (numbered (output_stmt net) 0 net.seats) _ (numbered_all (output_stmt net) Good net.seats (λ i s h. shown_good i s h s.taken refl))
        (numbered_all (register_stmt net) Good net.nodes blocks_good))

    pub to_module : Edge (module_of (tree_of net)) contents ins outs after
    to_module = record {
      values = values;
      given = ap (values_at values) (inputs_are net whole.taken) ∙ (values_of_same values e.at.ins (run.inputs net) (each_seat_pin (λ p. values p.name ≡ e.at.ins p.name) run.is_data_input net.seats (λ i s h k. given_at i s h s.taken refl k)) ∙ e.given);
      settled = all_map (λ s. values s.to ≡ step_value wss contents values s) step_of (stmts net) (all_one Good Settled (stmts net) (λ s g. g.0) all_good);
      seen = ap (values_at values) (outputs_are net) ∙ (values_of_same values e.at.outs (run.outputs net) (each_seat_pin (λ p. values p.name ≡ e.at.outs p.name) run.is_output net.seats (λ i s h k. shown_at i s h s.taken refl k)) ∙ e.seen);
      moved = all_map (λ s. OnTrue s.clocked (after s.to ≡ next_value wss values s)) step_of (stmts net) (all_one Good Moved (stmts net) (λ s g. g.1) all_good);
    }

  -- from the module's edge to the netlist's
  module _ (contents after : Values) (ins outs : List ℕ) (e : Edge (module_of (tree_of net)) contents ins outs after) where
    abbrev at : At
    at = record { ins = e.values; kept = contents; node = λ k. e.values (node_name net.nodes k); outs = e.values; after = after }

    settled_at : (s : Statement) → (j : ℕ) → slice_get (stmts net) j ≡ Some s → e.values (step_of s).to ≡ step_value wss contents e.values (step_of s)
    settled_at s j h = all_at (λ x. e.values x.to ≡ step_value wss contents e.values x) (map step_of (stmts net)) j (step_of s) e.settled (place_map step_of (stmts net) j s h)

    moved_at : (s : Statement) → (j : ℕ) → slice_get (stmts net) j ≡ Some s → OnTrue (step_of s).clocked (after (step_of s).to ≡ next_value wss e.values (step_of s))
    moved_at s j h = all_at (λ x. OnTrue x.clocked (after x.to ≡ next_value wss e.values x)) (map step_of (stmts net)) j (step_of s) e.moved (place_map step_of (stmts net) j s h)

    node_back : (k : ℕ) (n : NetNode) → slice_get net.nodes k ≡ Some n → e.values (node_name net.nodes k) ≡ node_value at (widths net) n
    node_back k (Input name w) h = ap (λ n. e.values (name_if k n)) h
    node_back k (Register name w reset None) h = absurd (none_waits net.nodes k name w reset whole.driven h)
    node_back k (Register name w reset (Some next)) h =
        let p = block_stated net made few whole.driven k name w reset next h in
        ap (λ n. e.values (name_if k n)) h ∙ (sym (ap e.values (block_to name w reset next)) ∙ (settled_at (block net name w reset next) p.0 p.1 ∙ (step_is contents e.values name w reset next
        ∙ sym (reset_same (λ i. e.values (node_name net.nodes i)) e.values name w reset next (contents name) (contents name) (λ pin low value q. refl) refl))))
    node_back k (Wire x) h =
        let p = wire_stated net made few whole.driven k x h in
        ap (λ n. e.values (name_if k n)) h ∙ (settled_at (Assign (wire_name k) (term_of net x)) p.0 p.1 ∙ value_is net wss (wide net made few) e.values x (made.nodes k (Wire x) h).0)

    next_back : (k : ℕ) (name : List ℕ) (w : ℕ) (reset : NetReset) (next : Id) → slice_get net.nodes k ≡ Some (Register name w reset (Some next)) → after name ≡ under at.node reset (at.node next.0)
    next_back k name w reset next h =
        let p = block_stated net made few whole.driven k name w reset next h in
        moved_block after e.values name w reset next (moved_at (block net name w reset next) p.0 p.1) ∙ (next_is e.values name w reset next
        ∙ sym (reset_same (λ i. e.values (node_name net.nodes i)) e.values name w reset next (e.values (nm next)) (e.values (nm next)) (λ pin low value q. refl) refl))

    out_back : (i : ℕ) (name : List ℕ) (w : ℕ) (from : Id) → slice_get net.seats i ≡ Some (record { name = name; width = w; taken = Some (takes.Output from) }) → e.values name ≡ e.values (nm from)
    out_back i name w from h = let p = output_stated net made few whole.driven i (record { name = name; width = w; taken = Some (takes.Output from) }) from h refl in settled_at (Assign name (Plain (Whole (nm from)))) p.0 p.1

    pub to_net : NetEdge net contents ins outs after
    to_net = record {
      at = at;
      edge = record { nodes = node_back; nexts = next_back; outs = out_back };
      given = ap (values_at e.values) (sym (inputs_are net whole.taken)) ∙ e.given;
      kept = same_refl contents (run.registers net);
      seen = ap (values_at e.values) (sym (outputs_are net)) ∙ e.seen;
      moved = same_refl after (run.registers net);
    }

  pub net_runs : (contents : Values) (vectors outputs : List (List ℕ)) → NetRun net contents vectors outputs → Run (module_of (tree_of net)) contents vectors outputs
  net_runs contents [] [] r = tt
  net_runs contents [] (o ∷ os) r = absurd r
  net_runs contents (x ∷ xs) [] r = absurd r
  net_runs contents (x ∷ xs) (o ∷ os) r = (r.0, to_module contents r.0 x o r.1, net_runs r.0 xs os r.2)

  pub module_runs : (contents : Values) (vectors outputs : List (List ℕ)) → Run (module_of (tree_of net)) contents vectors outputs → NetRun net contents vectors outputs
  module_runs contents [] [] r = tt
  module_runs contents [] (o ∷ os) r = absurd r
  module_runs contents (x ∷ xs) [] r = absurd r
  module_runs contents (x ∷ xs) (o ∷ os) r = (r.0, to_net contents r.0 x o r.1, module_runs r.0 xs os r.2)
