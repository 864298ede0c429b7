-- The names of a printed module differ.
use Rattle.std.specs.List.{AllByRecursion, IsDistinct, list_all}
use Rattle.std.specs.Fmt.{decimal}
use Rattle.std.specs.Str.{bytes_eq}
use Rattle.std.proofs.Common.{◌≡◌, ℕ, ◌+◌, ◌<◌, ◌≤◌, ◌^◌, true, false, List, [], ◌∷◌, ◌++◌, map, length, refl, ap, sym, ◌∙◌, subst, arith}
use Rattle.std.proofs.lemmas.Bool.{and_parts}
use Rattle.std.proofs.lemmas.Fmt.{decimal_injective}
use Rattle.std.proofs.lemmas.List.{map-append}
use Rattle.rtl_net.specs.Names.{Lacks, is_net_name}
use Rattle.rtl_net.specs.Net.{Net, registers_of}
use Rattle.rtl_net.specs.Ports.{seat_names, register_names}
use Rattle.rtl_net.specs.Made.{IsMade}
use Rattle.rtl_net.specs.declared.node.NetNode.{NetNode}
use Rattle.rtl_net.specs.declared.node.NetNode.TheVariants.{Input, Register, Wire}
use Rattle.rtl_net.specs.declared.node.Seat.{Seat}
use Rattle.v_printer.specs.Module.{numbered, wire_name}
use Rattle.v_printer.proofs.Entries.{Port, entry_name, entries, register_entry, wire_entry}
use Rattle.v_printer.proofs.Places.{Apart, distinct_append, apart_of, turned, all_append, all_one}
use Rattle.plain_lemmas.proofs.Lists.{differ_by}

wire_tail : (k j : ℕ) → wire_name k ≡ wire_name j → decimal k ≡ decimal j
wire_tail k j e = cc

pub wires_differ : (k j : ℕ) → k < 2 ^ 64 → j < 2 ^ 64 → (k ≡ j → ⊥) → bytes_eq (wire_name k) (wire_name j) ≡ false
wires_differ k j p q ne = differ_by (wire_name k) (wire_name j) (λ e. ne (decimal_injective k j p q (wire_tail k j e)))

-- a net name is no wire's
pub not_wire : (n : List ℕ) (k : ℕ) → is_net_name n ≡ true → bytes_eq n (wire_name k) ≡ false
not_wire n k h = differ_by n (wire_name k) (λ e. let q : false ≡ true = (and_parts _ _ (subst (λ m. is_net_name m ≡ true) e h)).1 in cc)

pub seat_entry_names : (ss : List Seat) → map entry_name (map Port ss) ≡ seat_names ss
seat_entry_names [] = refl
seat_entry_names (s ∷ ss) = ap (λ l. s.name ∷ l) (seat_entry_names ss)

pub register_entry_names : (k : ℕ) (ns : List NetNode) → map entry_name (numbered register_entry k ns) ≡ map (λ r. r.name) (registers_of ns)
register_entry_names k [] = refl
register_entry_names k (Input name w ∷ ns) = register_entry_names (k + 1) ns
register_entry_names k (Register name w reset next ∷ ns) = ap (λ l. name ∷ l) (register_entry_names (k + 1) ns)
register_entry_names k (Wire e ∷ ns) = register_entry_names (k + 1) ns

abbrev pub wire_names : ℕ → List NetNode → List (List ℕ)
wire_names k [] = []
wire_names k (Input name w ∷ ns) = wire_names (k + 1) ns
wire_names k (Register name w reset next ∷ ns) = wire_names (k + 1) ns
wire_names k (Wire e ∷ ns) = wire_name k ∷ wire_names (k + 1) ns

wire_entry_names : (net : Net) (k : ℕ) (ns : List NetNode) → map entry_name (numbered (wire_entry net) k ns) ≡ wire_names k ns
wire_entry_names net k [] = refl
wire_entry_names net k (Input name w ∷ ns) = wire_entry_names net (k + 1) ns
wire_entry_names net k (Register name w reset next ∷ ns) = wire_entry_names net (k + 1) ns
wire_entry_names net k (Wire e ∷ ns) = ap (λ l. wire_name k ∷ l) (wire_entry_names net (k + 1) ns)

-- what holds of the names of wires from number k on
pub all_wires : (P : List ℕ → Type 0) (k : ℕ) (ns : List NetNode) → ((j : ℕ) → k ≤ j → j < k + length ns → P (wire_name j)) → AllByRecursion P (wire_names k ns)
all_wires P k [] h = tt
all_wires P k (Input name w ∷ ns) h = all_wires P (k + 1) ns (λ j p q. h j (omega arith) (omega arith))
all_wires P k (Register name w reset next ∷ ns) h = all_wires P (k + 1) ns (λ j p q. h j (omega arith) (omega arith))
all_wires P k (Wire e ∷ ns) h = (h k (omega arith) (omega arith), all_wires P (k + 1) ns (λ j p q. h j (omega arith) (omega arith)))

distinct_wires : (k : ℕ) (ns : List NetNode) → k + length ns < 2 ^ 64 → IsDistinct bytes_eq (wire_names k ns)
unfolding IsDistinct
distinct_wires k [] h = tt
distinct_wires k (Input name w ∷ ns) h = distinct_wires (k + 1) ns (omega arith)
distinct_wires k (Register name w reset next ∷ ns) h = distinct_wires (k + 1) ns (omega arith)
distinct_wires k (Wire e ∷ ns) h =
    (all_wires (λ n. bytes_eq (wire_name k) n ≡ false) (k + 1) ns (λ j p q. wires_differ k j (omega arith) (omega arith) (λ e. absurd (omega arith))), distinct_wires (k + 1) ns (omega arith))

named_all : (ns : List (List ℕ)) → list_all is_net_name ns ≡ true → AllByRecursion (λ n. is_net_name n ≡ true) ns
named_all [] h = tt
named_all (n ∷ ns) h = let r = and_parts (is_net_name n) (list_all is_net_name ns) h in (r.0, named_all ns r.1)

module _ (net : Net) (made : IsMade net) (few : length net.nodes < 2 ^ 64) where
  abbrev seats : List (List ℕ)
  seats = seat_names net.seats

  abbrev regs : List (List ℕ)
  regs = register_names net

  abbrev wires : List (List ℕ)
  wires = wire_names 0 net.nodes

  pub seats_named : AllByRecursion (λ n. is_net_name n ≡ true) seats
  seats_named = named_all seats made.names.seat_named

  pub regs_named : AllByRecursion (λ n. is_net_name n ≡ true) regs
  regs_named = named_all regs made.names.register_named

  pub no_wires : (n : List ℕ) → is_net_name n ≡ true → Apart wires n
  no_wires n h = all_wires (λ m. bytes_eq n m ≡ false) 0 net.nodes (λ j p q. not_wire n j h)

  pub seats_regs : AllByRecursion (Apart regs) seats
  seats_regs = turned seats regs (all_one (Lacks seats) (Apart seats) regs (λ r l. apart_of seats r l) made.names.apart)

  pub seats_wires : AllByRecursion (Apart wires) seats
  seats_wires = all_one (λ n. is_net_name n ≡ true) (Apart wires) seats no_wires seats_named

  pub regs_wires : AllByRecursion (Apart wires) regs
  regs_wires = all_one (λ n. is_net_name n ≡ true) (Apart wires) regs no_wires regs_named

  pub wires_distinct : IsDistinct bytes_eq wires
  wires_distinct = distinct_wires 0 net.nodes (omega arith)

  pub names_are : map entry_name (entries net) ≡ seats ++ (regs ++ wires)
  names_are =
      map-append entry_name (map Port net.seats) (numbered register_entry 0 net.nodes ++ numbered (wire_entry net) 0 net.nodes)
      ∙ (ap (λ l. l ++ map entry_name (numbered register_entry 0 net.nodes ++ numbered (wire_entry net) 0 net.nodes)) (seat_entry_names net.seats)
      ∙ ap (λ l. seats ++ l) (map-append entry_name (numbered register_entry 0 net.nodes) (numbered (wire_entry net) 0 net.nodes)
      ∙ (ap (λ l. l ++ map entry_name (numbered (wire_entry net) 0 net.nodes)) (register_entry_names 0 net.nodes) ∙ ap (λ l. regs ++ l) (wire_entry_names net 0 net.nodes))))

  both_apart : (n : List ℕ) → Apart regs n → Apart wires n → Apart (regs ++ wires) n
  both_apart n p q = all_append (λ m. bytes_eq n m ≡ false) regs wires p q

  two_of : (P Q R : List ℕ → Type 0) (xs : List (List ℕ)) → ((x : List ℕ) → P x → Q x → R x) → AllByRecursion P xs → AllByRecursion Q xs → AllByRecursion R xs
  two_of P Q R [] f p q = tt
  two_of P Q R (x ∷ xs) f p q = (f x p.0 q.0, two_of P Q R xs f p.1 q.1)

  pub names_differ : IsDistinct bytes_eq (map entry_name (entries net))
  names_differ = subst (IsDistinct bytes_eq) (sym names_are)
      (distinct_append seats (regs ++ wires) made.names.seats_differ (distinct_append regs wires made.names.registers_differ wires_distinct regs_wires)
      (two_of (Apart regs) (Apart wires) (Apart (regs ++ wires)) seats both_apart seats_regs seats_wires))
