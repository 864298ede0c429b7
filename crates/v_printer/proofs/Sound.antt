-- Each statement of a printed module is sound.
use Rattle.std.specs.Bool.{beq}
use Rattle.std.specs.List.{AllByRecursion, list_all}
use Rattle.std.specs.Str.{bytes_eq}
use Rattle.std.proofs.Common.{◌≡◌, ℕ, ◌+◌, ◌<◌, ◌≤◌, ◌^◌, ◌==◌, Bool, true, false, ◌&&◌, List, [], ◌∷◌, length, slice_get, Option, Some, None, refl, ap, sym, ◌∙◌, subst, arith}
use Rattle.rtl_net.specs.Names.{clock}
use Rattle.rtl_net.specs.Value.{operands, expr_width}
use Rattle.rtl_net.specs.Net.{Net, width_in, widths, Has, IsInput, Stands, CanWire}
use Rattle.rtl_net.specs.Made.{IsMade}
use Rattle.rtl_net.specs.declared.node.Id.{Id}
use Rattle.rtl_net.specs.declared.node.NetExpr.{NetExpr}
use Rattle.rtl_net.specs.declared.node.NetNode.{NetNode}
use Rattle.rtl_net.specs.declared.node.NetNode.TheVariants.{Input, Register, Wire}
use Rattle.rtl_net.specs.declared.node.NetReset.{NetReset}
use Rattle.rtl_net.specs.declared.node.NetReset.TheVariants as resets
use Rattle.rtl_net.specs.declared.node.Seat.{Seat}
use Rattle.rtl_net.specs.declared.node.Occupant.{Occupant}
use Rattle.rtl_net.specs.declared.node.Occupant.TheVariants as takes
use Rattle.rtl_net.proofs.Places.{slice_get-within}
use Rattle.rtl_net.proofs.Widths.{width_at, width_most}
use Rattle.rtl_net.proofs.OneRun.{operands_have, reset_has}
use Rattle.v_design.specs.Lexemes.{among}
use Rattle.v_design.specs.Expr.{nets_of, width_of, is_sized}
use Rattle.v_design.specs.Tree.{Statement, Assign, Clocked, Resettable, Plain, Whole}
use Rattle.v_design.specs.Design.{expr_of}
use Rattle.v_design.specs.WellFormed.{Wired, Kept, port_kind, same_kind, has, is_pin, is_clock, is_reset, names, nets, used, all_among, drives_well, fits_well, RisesAlong}
use Rattle.v_design.proofs.TreeText.{stmt_cells}
use Rattle.v_printer.specs.Module.{numbered, wire_name, node_name, side_of, term_of, wire_stmt, shown_stmt, output_stmt, block, register_stmt, stmts, tree_of}
use Rattle.v_printer.proofs.Choices.{same_number}
use Rattle.v_printer.proofs.Entries.{Entry, Port, Kept_by, Wire_of}
use Rattle.v_printer.proofs.Places.{all_append, all_one, all_map, list_all_of, numbered_all}
use Rattle.plain_lemmas.proofs.Lists.{bytes_eq-itself as same_bytes}
use Rattle.v_printer.proofs.Nodes.{seat_rank, seat_placed, node_placed, known, known_node, is_kind, pin_of, named_at, ws, wide, wide_entry, rank, rank_found, rank_most, seat_word, register_word, word_of_node, not_clock}
use Rattle.v_printer.proofs.Terms.{nets_are_operands, width_is, sized_is}
use Rattle.v_printer.proofs.Words.{wire_word}
use Rattle.v_printer.proofs.Printable.{PrintsLine, expr_prints, assign_line, shown_line, clocked_line, resettable_line, const_fits}
use Rattle.plain_lemmas.proofs.Bools.{and-both_true as both, not-of_false as not_is}

none_among : (c : List ℕ) (ns : List (List ℕ)) → AllByRecursion (λ n. bytes_eq n c ≡ false) ns → among ns c ≡ false
none_among c [] h = refl
none_among c (n ∷ ns) h = rw (h.0, none_among c ns h.1)

module _ (net : Net) (made : IsMade net) (few : length net.nodes < 2 ^ 64) where
  abbrev nm : Id → List ℕ
  nm a = node_name net.nodes a.0

  abbrev declared_names : List (List ℕ)
  declared_names = names (nets (tree_of net))

  abbrev wss : List ℕ → ℕ
  wss = ws net made few

  abbrev ranks : List ℕ → ℕ
  ranks = rank net made few

  -- what is asked of a statement
  pub record IsSound (s : Statement) : Type 0 where
    pub line : PrintsLine (stmt_cells s)
    pub declared : all_among declared_names (used s) ≡ true
    pub drives : drives_well (nets (tree_of net)) s ≡ true
    pub fits : fits_well wss s ≡ true
    pub rises : RisesAlong ranks s

  node_of : (a : Id) (w : ℕ) → Stands net a w → Has net a
  node_of a w s = (s.below, omega (arith, s.some, s.width))

  -- the nets of an expression, by its operands
  by_operands : (P : List ℕ → Type 0) (e : NetExpr) → AllByRecursion (λ a. P (nm a)) (operands e) → AllByRecursion P (nets_of (expr_of (term_of net e)))
  by_operands P e h = subst (AllByRecursion P) (sym (nets_are_operands net e)) (all_map P nm (operands e) h)

  operands_each : (P : List ℕ → Type 0) (e : NetExpr) → CanWire net e → ((a : Id) → Has net a → P (nm a)) → AllByRecursion P (nets_of (expr_of (term_of net e)))
  operands_each P e can f = by_operands P e (all_one (Has net) (λ a. P (nm a)) (operands e) f (operands_have net e can))

  rising : (k : ℕ) (e : NetExpr) → CanWire net e → AllByRecursion (λ a. a.0 < k) (operands e) → (r : ℕ) → r ≡ k + 1 → AllByRecursion (λ n. ranks n < r) (nets_of (expr_of (term_of net e)))
  rising k e can below r q = by_operands (λ n. ranks n < r) e (go (operands e) below (operands_have net e can))
    where
      go : (ids : List Id) → AllByRecursion (λ a. a.0 < k) ids → AllByRecursion (Has net) ids → AllByRecursion (λ a. ranks (nm a) < r) ids
      go [] b h = tt
      go (a ∷ ids) b h = (let m : ranks (nm a) ≤ a.0 + 1 = rank_most net made few a h.0 in let l : a.0 < k = b.0 in omega arith, go ids b.1 h.1)

  wire_sound : (k : ℕ) (e : NetExpr) → slice_get net.nodes k ≡ Some (Wire e) → IsSound (Assign (wire_name k) (term_of net e))
  wire_sound k e h =
      let m = made.nodes k (Wire e) h in
      let id : Id = record { 0 = k } in
      let en : Entry = Wire_of (width_in net id) k in
      let pl = node_placed net made few k (Wire e) h in
      let l : k < length net.nodes = slice_get-within net.nodes k (Wire e) h in
      let wd : width_in net id ≡ expr_width (widths net) e = width_at net made k (Wire e) h l in
      let wd' : wss (wire_name k) ≡ width_of wss (expr_of (term_of net e)) = wide_entry net made few en pl ∙ (wd ∙ sym (width_is net wss (wide net made few) e m.0)) in
      record {
        line = assign_line (wire_name k) (term_of net e) (wire_word k (omega arith)) (expr_prints net (word_of_node net made few) (width_most net made) e m.0);
        declared = both (among declared_names (wire_name k)) (list_all (among declared_names) (nets_of (expr_of (term_of net e)))) (known net made few en pl)
            (list_all_of (among declared_names) _ (operands_each (λ n. among declared_names n ≡ true) e m.0 (known_node net made few)));
        drives = both (has (nets (tree_of net)) Wired (wire_name k)) _ (is_kind net made few en Wired pl refl)
            (not_is (among (nets_of (expr_of (term_of net e))) clock) (none_among clock _ (operands_each (λ n. bytes_eq n clock ≡ false) e m.0 (not_clock net made few))));
        fits = both (is_sized wss (expr_of (term_of net e)) && wss (wire_name k) == width_of wss (expr_of (term_of net e))) true
            (both (is_sized wss (expr_of (term_of net e))) _ (sized_is net wss (wide net made few) e m.0) (same_number (wss (wire_name k)) _ wd')) refl;
        rises = rising k e m.0 m.1 (ranks (wire_name k)) (rank_found net made few en pl);
      }

  output_sound : (i : ℕ) (s : Seat) (from : Id) → slice_get net.seats i ≡ Some s → s.taken ≡ Some (takes.Output from) → IsSound (Assign s.name (Plain (Whole (nm from))))
  output_sound i s from h t =
      let g : slice_get net.seats i ≡ Some (record { name = s.name; width = s.width; taken = Some (takes.Output from) }) = h ∙ ap (λ x. Some (record { name = s.name; width = s.width; taken = x })) t in
      let st : Stands net from s.width = (made.seats i _ g).1 in
      let hs = node_of from s.width st in
      let pl = seat_placed net made few i s h in
      let wd : wss s.name ≡ wss (nm from) = wide_entry net made few (Port s) pl ∙ (sym st.width ∙ sym (wide net made few from hs)) in
      let rk : ranks s.name ≡ length net.nodes + 2 = rank_found net made few (Port s) pl ∙ ap (seat_rank (length net.nodes)) t in
      let rm : ranks (nm from) ≤ from.0 + 1 = rank_most net made few from hs in
      let below : from.0 < length net.nodes = hs.0 in
      record {
        line = shown_line s.name (nm from) (seat_word net made few i s h) (word_of_node net made few from hs);
        declared = both (among declared_names s.name) _ (known net made few (Port s) pl) (both (among declared_names (nm from)) true (known_node net made few from hs) refl);
        drives = both (has (nets (tree_of net)) Wired s.name) _ (is_kind net made few (Port s) Wired pl (ap (λ x. same_kind (port_kind (side_of x)) Wired) t))
            (not_is (among (nm from ∷ []) clock) (none_among clock (nm from ∷ []) (not_clock net made few from hs, tt)));
        fits = both (true && wss s.name == wss (nm from)) true (both true (wss s.name == wss (nm from)) refl (same_number (wss s.name) (wss (nm from)) wd)) refl;
        rises = (omega arith, tt);
      }

  -- the clock is declared, as an input of one bit
  record HasClockNet : Type 0 where
    known_clock : among declared_names clock ≡ true
    pin : is_pin (nets (tree_of net)) clock ≡ true

  clock_net : (k : Id) → IsInput net k clock 1 → HasClockNet
  clock_net k h = record {
    known_clock = known_at' k h;
    pin = pin_of net made few clock k h;
  }
    where
      known_at' : (k : Id) → IsInput net k clock 1 → among declared_names clock ≡ true
      known_at' k h = let r = made.seated k clock 1 h in known net made few (Port (record { name = clock; width = 1; taken = Some (takes.Input k) })) (seat_placed net made few r.0 _ r.1)

  plain_sound : (k : ℕ) (name : List ℕ) (w : ℕ) (next : Id) → slice_get net.nodes k ≡ Some (Register name w resets.None (Some next)) → IsSound (Clocked clock name (Plain (Whole (nm next))))
  plain_sound k name w next h =
      let m = made.nodes k _ h in
      let st : Stands net next w = m.3 in
      let hs = node_of next w st in
      let en : Entry = Kept_by name w k in
      let pl = node_placed net made few k _ h in
      let c = clock_net m.4.0 m.4.2 in
      let wd : wss name ≡ wss (nm next) = wide_entry net made few en pl ∙ (sym st.width ∙ sym (wide net made few next hs)) in
      record {
        line = clocked_line name (nm next) (register_word net made few k name w resets.None (Some next) h) (word_of_node net made few next hs);
        declared = both (among declared_names clock) _ c.known_clock (both (among declared_names name) _ (known net made few en pl) (both (among declared_names (nm next)) true (known_node net made few next hs) refl));
        drives = both (has (nets (tree_of net)) Kept name && is_clock (nets (tree_of net)) clock) _ (both (has (nets (tree_of net)) Kept name) _ (is_kind net made few en Kept pl refl) (both (is_pin (nets (tree_of net)) clock) true c.pin refl))
            (not_is (among (nm next ∷ []) clock) (none_among clock (nm next ∷ []) (not_clock net made few next hs, tt)));
        fits = both (true && wss name == wss (nm next)) true (both true (wss name == wss (nm next)) refl (same_number (wss name) (wss (nm next)) wd)) refl;
        rises = tt;
      }

  same_side : (b : Bool) → beq b b ≡ true
  same_side true = refl
  same_side false = refl

  reset_sound : (k : ℕ) (name : List ℕ) (w : ℕ) (pin : Id) (low : Bool) (value : ℕ) (next : Id) → slice_get net.nodes k ≡ Some (Register name w (resets.Async pin low value) (Some next))
      → IsSound (Resettable clock low (nm pin) low (nm pin) name w value name (Plain (Whole (nm next))))
  reset_sound k name w pin low value next h =
      let m = made.nodes k _ h in
      let st : Stands net next w = m.3 in
      let hs = node_of next w st in
      let ps = reset_has net made w (resets.Async pin low value) m.1 pin low value refl in
      let en : Entry = Kept_by name w k in
      let pl = node_placed net made few k _ h in
      let c = clock_net m.4.0 m.4.2 in
      let pn : nm pin ≡ m.1.0 = named_at net made few pin.0 _ m.1.1.is in
      let ip : is_pin (nets (tree_of net)) (nm pin) ≡ true = ap (is_pin (nets (tree_of net))) pn ∙ pin_of net made few m.1.0 pin m.1.1 in
      let ww : wss name ≡ w = wide_entry net made few en pl in
      let wd : wss name ≡ wss (nm next) = ww ∙ (sym st.width ∙ sym (wide net made few next hs)) in
      let A = among declared_names in
      let NS = nets (tree_of net) in
      record {
        line = resettable_line low (nm pin) name (nm next) w value (word_of_node net made few pin ps) (register_word net made few k name w (resets.Async pin low value) (Some next) h) (word_of_node net made few next hs)
            (const_fits w value m.0.0 m.0.1 m.1.3);
        declared = both (A clock) _ c.known_clock (both (A (nm pin)) _ (known_node net made few pin ps) (both (A (nm pin)) _ (known_node net made few pin ps) (both (A name) _ (known net made few en pl)
            (both (A name) _ (known net made few en pl) (both (A (nm next)) true (known_node net made few next hs) refl)))));
        drives = both (has NS Kept name && is_clock NS clock && is_reset NS (nm pin) && bytes_eq (nm pin) (nm pin) && beq low low && bytes_eq name name) _
            (both (has NS Kept name && is_clock NS clock && is_reset NS (nm pin) && bytes_eq (nm pin) (nm pin) && beq low low) (bytes_eq name name)
            (both (has NS Kept name && is_clock NS clock && is_reset NS (nm pin) && bytes_eq (nm pin) (nm pin)) (beq low low)
            (both (has NS Kept name && is_clock NS clock && is_reset NS (nm pin)) (bytes_eq (nm pin) (nm pin))
            (both (has NS Kept name && is_clock NS clock) (is_reset NS (nm pin))
            (both (has NS Kept name) (is_clock NS clock) (is_kind net made few en Kept pl refl) (both (is_pin NS clock) true c.pin refl))
            (both (is_pin NS (nm pin)) _ ip (not_is (bytes_eq (nm pin) clock) (not_clock net made few pin ps))))
            (same_bytes (nm pin))) (same_side low)) (same_bytes name))
            (not_is (among (nm next ∷ []) clock) (none_among clock (nm next ∷ []) (not_clock net made few next hs, tt)));
        fits = both (true && wss name == wss (nm next)) (wss name == w) (both true (wss name == wss (nm next)) refl (same_number (wss name) (wss (nm next)) wd)) (same_number (wss name) w ww);
        rises = tt;
      }

  block_sound : (k : ℕ) (name : List ℕ) (w : ℕ) (reset : NetReset) (next : Id) → slice_get net.nodes k ≡ Some (Register name w reset (Some next)) → IsSound (block net name w reset next)
  block_sound k name w resets.None next h = plain_sound k name w next h
  block_sound k name w (resets.Async pin low value) next h = reset_sound k name w pin low value next h

  wires_sound : (k : ℕ) (n : NetNode) → slice_get net.nodes k ≡ Some n → AllByRecursion IsSound (wire_stmt net k n)
  wires_sound k (Input name w) h = tt
  wires_sound k (Register name w reset next) h = tt
  wires_sound k (Wire e) h = (wire_sound k e h, tt)

  shown_sound : (i : ℕ) (s : Seat) → slice_get net.seats i ≡ Some s → (t : Option Occupant) → s.taken ≡ t → AllByRecursion IsSound (shown_stmt net s.name t)
  shown_sound i s h None e = tt
  shown_sound i s h (Some (takes.Input id)) e = tt
  shown_sound i s h (Some (takes.Output from)) e = (output_sound i s from h e, tt)

  registers_sound : (k : ℕ) (n : NetNode) → slice_get net.nodes k ≡ Some n → AllByRecursion IsSound (register_stmt net k n)
  registers_sound k (Input name w) h = tt
  registers_sound k (Register name w reset None) h = tt
  registers_sound k (Register name w reset (Some next)) h = (block_sound k name w reset next h, tt)
  registers_sound k (Wire e) h = tt

  pub all_sound : AllByRecursion IsSound (stmts net)
  all_sound = all_append IsSound (numbered (wire_stmt net) 0 net.nodes) _ (numbered_all (wire_stmt net) IsSound net.nodes wires_sound)
      (all_append IsSound (numbered (output_stmt net) 0 net.seats) _ (numbered_all (output_stmt net) IsSound net.seats (λ i s h. shown_sound i s h s.taken refl))
      (numbered_all (register_stmt net) IsSound net.nodes registers_sound))
