-- What is found of a netlist's nodes by their names.
use Rattle.std.specs.Str.{bytes_eq}
use Rattle.std.proofs.Common.{◌≡◌, ℕ, ◌+◌, ◌<◌, ◌≤◌, ◌^◌, ◌==◌, Bool, true, false, ◌&&◌, if◌then◌else◌, List, map, length, slice_get, Option, Some, None, refl, ap, sym, ◌∙◌, subst, arith}
use Rattle.rtl_net.specs.Names.{clock, is_net_name}
use Rattle.rtl_net.specs.Net.{Net, width_in, Has, IsInput}
use Rattle.rtl_net.specs.Made.{IsMade}
use Rattle.rtl_net.specs.declared.node.Id.{Id}
use Rattle.rtl_net.specs.declared.node.NetNode.{NetNode}
use Rattle.rtl_net.specs.declared.node.NetNode.TheVariants.{Input, Register, Wire}
use Rattle.rtl_net.specs.declared.node.NetReset.{NetReset}
use Rattle.rtl_net.specs.declared.node.Seat.{Seat}
use Rattle.rtl_net.specs.declared.node.Occupant.{Occupant}
use Rattle.rtl_net.specs.declared.node.Occupant.TheVariants as takes
use Rattle.rtl_net.proofs.Places.{item_at, slice_get-within}
use Rattle.rtl_net.proofs.Widths.{width_at}
use Rattle.rtl_net.proofs.HasRun.{look_at}
use Rattle.rtl_net.proofs.OneRun.{width_some}
use Rattle.rtl_net.proofs.Distinct.{register_at}
use Rattle.v_design.specs.Lexemes.{Name, among}
use Rattle.v_design.specs.Expr.{Widths}
use Rattle.v_design.specs.Design.{module_of}
use Rattle.v_design.specs.Design as design
use Rattle.v_design.specs.WellFormed as form
use Rattle.v_design.specs.WellFormed.{Kind, Given, same_kind, has, is_pin, names, nets}
use Rattle.v_design.proofs.Printing.{has_word}
use Rattle.v_printer.specs.Module.{numbered, name_of, name_if, node_name, tree_of}
use Rattle.v_printer.proofs.Entries.{Entry, Port, Kept_by, Wire_of, entry_name, entry_width, entry_kind, entry_net, entries, register_entry, wire_entry, nets_are, look, widths_are}
use Rattle.v_printer.proofs.Places.{place_left, place_right, numbered_has, any_at, all_at, flipped}
use Rattle.plain_lemmas.proofs.Lists.{bytes_eq-itself as same_bytes, get-map_at as place_map}
use Rattle.v_printer.proofs.Named.{names_differ, seats_named, regs_named, seats_regs}
use Rattle.v_printer.proofs.Words.{net_word, wire_word}

-- the net of a node
abbrev pub node_entry : Net → ℕ → NetNode → Entry
node_entry net k (Input name w) = Port (record { name = name; width = w; taken = Some (takes.Input (record { 0 = k })) })
node_entry net k (Register name w reset next) = Kept_by name w k
node_entry net k (Wire e) = Wire_of (width_in net (record { 0 = k })) k

-- behind how many assignments a net stands at most: an output stands behind all
abbrev pub seat_rank : ℕ → Option Occupant → ℕ
seat_rank count None = 0
seat_rank count (Some (takes.Input id)) = 0
seat_rank count (Some (takes.Output from)) = count + 2

abbrev pub entry_rank : ℕ → Entry → ℕ
entry_rank count (Port s) = seat_rank count s.taken
entry_rank count (Kept_by name w k) = 0
entry_rank count (Wire_of w k) = k + 1

name_entry : (net : Net) (k : ℕ) (n : NetNode) → name_of k n ≡ entry_name (node_entry net k n)
name_entry net k (Input name w) = refl
name_entry net k (Register name w reset next) = refl
name_entry net k (Wire e) = refl

rank_entry : (net : Net) (count k : ℕ) (n : NetNode) → entry_rank count (node_entry net k n) ≤ k + 1
rank_entry net count k (Input name w) = omega arith
rank_entry net count k (Register name w reset next) = omega arith
rank_entry net count k (Wire e) = omega arith

module _ (net : Net) (made : IsMade net) (few : length net.nodes < 2 ^ 64) where
  abbrev pub Placed : Entry → Type 0
  Placed e = (j : ℕ) × (slice_get (entries net) j ≡ Some e)

  pub seat_placed : (i : ℕ) (s : Seat) → slice_get net.seats i ≡ Some s → Placed (Port s)
  seat_placed i s h = (i, place_left (map Port net.seats) _ i (Port s) (place_map Port net.seats i s h))

  pub node_placed : (k : ℕ) (n : NetNode) → slice_get net.nodes k ≡ Some n → Placed (node_entry net k n)
  node_placed k (Input name w) h = let r = made.seated (record { 0 = k }) name w (record { is = h }) in seat_placed r.0 _ r.1
  node_placed k (Register name w reset next) h =
      let r = numbered_has register_entry net.nodes k (Register name w reset next) (Kept_by name w k) h refl in
      place_right (map Port net.seats) _ r.0 (Kept_by name w k) (place_left _ _ r.0 (Kept_by name w k) r.1)
  node_placed k (Wire e) h =
      let x = Wire_of (width_in net (record { 0 = k })) k in
      let r = numbered_has (wire_entry net) net.nodes k (Wire e) x h refl in
      let q = place_right _ (numbered (wire_entry net) 0 net.nodes) r.0 x r.1 in
      place_right (map Port net.seats) _ q.0 x q.1

  -- what is found at a net's name is the net's
  pub found : (number : Entry → ℕ) (e : Entry) → Placed e → look number (entries net) (entry_name e) ≡ number e
  found number e p = look_at entry_name number (entries net) (names_differ net made few) p.0 e p.1

  pub known : (e : Entry) → Placed e → among (names (nets (tree_of net))) (entry_name e) ≡ true
  known e p = ap (λ ns. among (names ns) (entry_name e)) (nets_are net)
      ∙ any_at (λ w. bytes_eq w (entry_name e)) (names (map entry_net (entries net))) p.0 (entry_name e) (place_map (λ (n : form.Net). n.name) (map entry_net (entries net)) p.0 (entry_net e) (place_map entry_net (entries net) p.0 e p.1)) (same_bytes (entry_name e))

  pub is_kind : (e : Entry) (kind : Kind) → Placed e → same_kind (entry_kind e) kind ≡ true → has (nets (tree_of net)) kind (entry_name e) ≡ true
  is_kind e kind p k = ap (λ ns. has ns kind (entry_name e)) (nets_are net)
      ∙ any_at (λ d. bytes_eq d.name (entry_name e) && same_kind d.kind kind) (map entry_net (entries net)) p.0 (entry_net e) (place_map entry_net (entries net) p.0 e p.1) (rw (same_bytes (entry_name e), k))

  pub pin_of : (name : List ℕ) (id : Id) → IsInput net id name 1 → is_pin (nets (tree_of net)) name ≡ true
  pin_of name id h =
      let r = made.seated id name 1 h in
      let s : Seat = record { name = name; width = 1; taken = Some (takes.Input id) } in
      let p = seat_placed r.0 s r.1 in
      ap (λ ns. is_pin ns name) (nets_are net)
      ∙ any_at (λ d. bytes_eq d.name name && same_kind d.kind Given && d.width == 1) (map entry_net (entries net)) p.0 (entry_net (Port s)) (place_map entry_net (entries net) p.0 (Port s) p.1) (rw (same_bytes name))

  pub named_at : (k : ℕ) (n : NetNode) → slice_get net.nodes k ≡ Some n → node_name net.nodes k ≡ entry_name (node_entry net k n)
  named_at k n h = ap (name_if k) h ∙ name_entry net k n

  abbrev pub nm : Id → List ℕ
  nm a = node_name net.nodes a.0

  pub found_at : (number : Entry → ℕ) (k : ℕ) (n : NetNode) → slice_get net.nodes k ≡ Some n → look number (entries net) (node_name net.nodes k) ≡ number (node_entry net k n)
  found_at number k n h = ap (look number (entries net)) (named_at k n h) ∙ found number (node_entry net k n) (node_placed k n h)

  pub known_at : (k : ℕ) (n : NetNode) → slice_get net.nodes k ≡ Some n → among (names (nets (tree_of net))) (node_name net.nodes k) ≡ true
  known_at k n h = ap (among (names (nets (tree_of net)))) (named_at k n h) ∙ known (node_entry net k n) (node_placed k n h)

  pub known_node : (a : Id) → Has net a → among (names (nets (tree_of net))) (nm a) ≡ true
  known_node a h = let r = item_at net.nodes a.0 h.0 in known_at a.0 r.0 r.1

  entry_wide : (k : ℕ) (n : NetNode) → slice_get net.nodes k ≡ Some n → 0 < width_in net (record { 0 = k }) → entry_width (node_entry net k n) ≡ width_in net (record { 0 = k })
  entry_wide k (Input name w) h p =
      let e : width_in net (record { 0 = k }) ≡ (if bytes_eq name clock then 0 else w) = width_at net made k (Input name w) h (slice_get-within net.nodes k _ h) in
      let b = width_some (bytes_eq name clock) w (subst (λ z. 0 < z) e p) in
      sym (e ∙ ap (λ (x : Bool). if x then 0 else w) b)
  entry_wide k (Register name w reset next) h p = sym (width_at net made k (Register name w reset next) h (slice_get-within net.nodes k _ h))
  entry_wide k (Wire e) h p = refl

  abbrev pub ws : Widths
  ws = design.widths (module_of (tree_of net))

  -- a node has its width by its name
  pub wide : (a : Id) → Has net a → ws (nm a) ≡ width_in net a
  wide a h = let r = item_at net.nodes a.0 h.0 in widths_are net (nm a) ∙ (found_at entry_width a.0 r.0 r.1 ∙ entry_wide a.0 r.0 r.1 h.1)

  pub wide_entry : (e : Entry) → Placed e → ws (entry_name e) ≡ entry_width e
  wide_entry e p = widths_are net (entry_name e) ∙ found entry_width e p

  abbrev pub rank : List ℕ → ℕ
  rank n = look (entry_rank (length net.nodes)) (entries net) n

  pub rank_found : (e : Entry) → Placed e → rank (entry_name e) ≡ entry_rank (length net.nodes) e
  rank_found e p = found (entry_rank (length net.nodes)) e p

  pub rank_most : (a : Id) → Has net a → rank (nm a) ≤ a.0 + 1
  rank_most a h =
      let r = item_at net.nodes a.0 h.0 in
      let e : look (entry_rank (length net.nodes)) (entries net) (nm a) ≡ entry_rank (length net.nodes) (node_entry net a.0 r.0) = found_at (entry_rank (length net.nodes)) a.0 r.0 r.1 in
      let l : entry_rank (length net.nodes) (node_entry net a.0 r.0) ≤ a.0 + 1 = rank_entry net (length net.nodes) a.0 r.0 in
      omega arith

  -- the names are words of the grammar
  pub seat_word : (i : ℕ) (s : Seat) → slice_get net.seats i ≡ Some s → has_word (Name s.name) ≡ true
  seat_word i s h = net_word s.name (all_at (λ n. is_net_name n ≡ true) _ i s.name (seats_named net made few) (place_map (λ (x : Seat). x.name) net.seats i s h))

  register_named : (k : ℕ) (name : List ℕ) (w : ℕ) (reset : NetReset) (next : Option Id) → slice_get net.nodes k ≡ Some (Register name w reset next) → is_net_name name ≡ true
  register_named k name w reset next h = let r = register_at net.nodes k name w reset next h in all_at (λ n. is_net_name n ≡ true) _ r.0 name (regs_named net made few) r.1

  pub register_word : (k : ℕ) (name : List ℕ) (w : ℕ) (reset : NetReset) (next : Option Id) → slice_get net.nodes k ≡ Some (Register name w reset next) → has_word (Name name) ≡ true
  register_word k name w reset next h = net_word name (register_named k name w reset next h)

  node_word : (k : ℕ) (n : NetNode) → slice_get net.nodes k ≡ Some n → has_word (Name (name_of k n)) ≡ true
  node_word k (Input name w) h = let r = made.seated (record { 0 = k }) name w (record { is = h }) in seat_word r.0 _ r.1
  node_word k (Register name w reset next) h = register_word k name w reset next h
  node_word k (Wire e) h = wire_word k (let l : k < length net.nodes = slice_get-within net.nodes k (Wire e) h in omega arith)

  pub word_at : (k : ℕ) (n : NetNode) → slice_get net.nodes k ≡ Some n → has_word (Name (node_name net.nodes k)) ≡ true
  word_at k n h = ap (λ m. has_word (Name (name_if k m))) h ∙ node_word k n h

  pub word_of_node : (a : Id) → Has net a → has_word (Name (nm a)) ≡ true
  word_of_node a h = let r = item_at net.nodes a.0 h.0 in word_at a.0 r.0 r.1

  -- no node that expressions may name is the clock
  off_clock : (k : ℕ) (n : NetNode) → slice_get net.nodes k ≡ Some n → 0 < width_in net (record { 0 = k }) → bytes_eq (name_of k n) clock ≡ false
  off_clock k (Input name w) h p =
      let e : width_in net (record { 0 = k }) ≡ (if bytes_eq name clock then 0 else w) = width_at net made k (Input name w) h (slice_get-within net.nodes k _ h) in
      width_some (bytes_eq name clock) w (subst (λ z. 0 < z) e p)
  off_clock k (Register name w reset next) h p =
      let m = made.nodes k _ h in
      let r = made.seated m.4.0 clock 1 m.4.2 in
      let s = register_at net.nodes k name w reset next h in
      flipped clock name (all_at (λ n. bytes_eq clock n ≡ false) _ s.0 name (all_at _ _ r.0 clock (seats_regs net made few) (place_map (λ (x : Seat). x.name) net.seats r.0 _ r.1)) s.1)
  off_clock k (Wire e) h p = refl

  pub not_clock : (a : Id) → Has net a → bytes_eq (nm a) clock ≡ false
  not_clock a h = let r = item_at net.nodes a.0 h.0 in ap (λ m. bytes_eq (name_if a.0 m) clock) r.1 ∙ off_clock a.0 r.0 r.1 h.1
