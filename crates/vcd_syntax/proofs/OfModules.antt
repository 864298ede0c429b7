-- The pins of a module can be dumped.
use Rattle.std.specs.List.{AllByRecursion, before_first, after_first}
use Rattle.std.specs.Prelude.{IsTrue, nat_le, nat_lt, if◌then◌else◌, option_and_then, filter}
use Rattle.std.specs.Str.{bytes_eq}
use Rattle.std.specs.Str.Parse.{digits_value}
use Rattle.std.proofs.Common.{◌≡◌, ℕ, ◌*◌, ◌^◌, ◌≤◌, Bool, true, false, not, ◌&&◌, cond, Option, Some, None, List, [], ◌∷◌, ◌++◌, length, map, refl, ap, sym, ◌∙◌, subst, arith}
use Rattle.std.proofs.lemmas.Bool.{and_parts, or_parts, or_from, both_ways, not-true}
use Rattle.std.proofs.lemmas.Bool.Decides.{nat_tests}
use Rattle.std.proofs.lemmas.List.{map-append}
use Rattle.plain_lemmas.proofs.Lists.{each-left, each-right, each-append, bytes_eq-swap}
use Rattle.rb_base.specs.declared.ports.Pin.{Pin}
use Rattle.rb_base.specs.declared.ports.Port.{Port}
use Rattle.rb_grammar.specs.Lexemes.{meaning_of}
use Rattle.rb_grammar.specs.Spelling.{At, SpellsFrom}
use Rattle.rb_grammar.specs.Spelling as spelling
use Rattle.v_design.specs.Lexemes.{Token, Word, Name, Number, Const, among, is_name, reserved_words, marks, is_decimal, is_quote, base_of, is_constant, constant, constant_of, verilog, Spells}
use Rattle.v_design.specs.Tree.{Tree, IsTree, port_tokens, ports_tokens, range_tokens, tokens_of, is_width, port_widths, decl_widths}
use Rattle.v_design.specs.WellFormed.{IsWellFormed, Net, names, port_net, decl_net, distinct}
use Rattle.v_design.specs.Design.{module_of, inputs, outputs, port_pin, is_input, is_data_input, is_output, clock}
use Rattle.v_design.specs.Fits.{AllFit}
use Rattle.v_design.proofs.Names.{each_kept}
use Rattle.vcd_syntax.specs.Words.{is_identifier}
use Rattle.vcd_syntax.specs.Faulty.{most_times, most_values}
use Rattle.vcd_syntax.specs.Reading.{IsTable}
use Rattle.vcd_syntax.specs.Dump.{dump_text}
use Rattle.vcd_syntax.proofs.Fine.{names_of, among-append}
use Rattle.vcd_syntax.proofs.WordKinds.{AreNamed, AreWide}
use Rattle.vcd_syntax.proofs.ReadBack.{read_back}

-- Names of a text are identifiers.

abbrev IsNamed : Token → Type 0
IsNamed (Word w) = Unit {0}
IsNamed (Name n) = is_identifier n ≡ true
IsNamed (Number n) = Unit {0}
IsNamed (Const w v) = Unit {0}

abbrev MeansNamed : Option Token → Type 0
MeansNamed None = Unit {0}
MeansNamed (Some t) = IsNamed t

either : (b : Bool) (x y : Option Token) → (b ≡ true → MeansNamed x) → MeansNamed y → MeansNamed (cond b x y)
either true x y p q = p refl
either false x y p q = q

name_or_word : (b : Bool) (w : List ℕ) → among reserved_words w ≡ b → is_name w ≡ true → IsNamed (cond b (Word w) (Name w))
name_or_word true w e h = tt
name_or_word false w e h = rw (h, e) refl

constant_named : (width value : ℕ) → MeansNamed (constant width value)
constant_named width value = at (nat_le 1 width && nat_le width 128 && nat_lt value (2 ^ width))
  where
    at : (b : Bool) → MeansNamed (if b then Some (Const width value) else None)
    at true = tt
    at false = tt

based_named : (width : ℕ) (o : Option ℕ) (digits : List ℕ) → MeansNamed (option_and_then (λ base. constant width (digits_value base digits)) o)
based_named width None digits = tt
based_named width (Some base) digits = constant_named width (digits_value base digits)

constant_of_named : (width : ℕ) (based : List ℕ) → MeansNamed (constant_of width based)
constant_of_named width [] = tt
constant_of_named width (b ∷ digits) = based_named width (base_of b) digits

means_named : (w : List ℕ) → MeansNamed (meaning_of verilog w)
unfolding verilog
means_named w =
    either (is_name w) _ _ (name_or_word (among reserved_words w) w refl)
    (either (among marks w) _ _ (λ e. tt)
    (either (is_decimal w) _ _ (λ e. tt)
    (either (is_constant w) _ None (λ e. constant_of_named (digits_value 10 (before_first is_quote w)) (after_first is_quote w)) tt)))

placed_named : (size : ℕ) (ts : List (At Token)) (text : List ℕ) → SpellsFrom verilog size text ts → AllByRecursion IsNamed (spelling.tokens_of ts)
placed_named size [] text h = tt
placed_named size (t ∷ ts) text h = (let s = h.1 in subst MeansNamed s.means (means_named s.word), placed_named size ts h.0 h.2)

tokens_named : (ts : List Token) (text : List ℕ) → Spells text ts → AllByRecursion IsNamed ts
tokens_named ts text h = subst (AllByRecursion IsNamed) h.2 (placed_named (length text) h.0 text h.1)

-- Ports as pins.

abbrev as_pins : List Port → List Pin
as_pins ps = map port_pin ps

port_named : (p : Port) → AllByRecursion IsNamed (port_tokens p) → is_identifier p.name ≡ true
port_named p h = (each-right IsNamed (range_tokens p.width) (Name p.name ∷ []) h.1).0

ports_named : (ps : List Port) → AllByRecursion IsNamed (ports_tokens ps) → AreNamed (as_pins ps)
ports_named [] h = tt
ports_named (p ∷ []) h = (port_named p h, tt)
ports_named (p ∷ q ∷ ps) h = (port_named p (each-left IsNamed (port_tokens p) _ h), ports_named (q ∷ ps) (each-right IsNamed (port_tokens p) _ h).1)

wide : (w : ℕ) → is_width w ≡ true → (1 ≤ w) × (w ≤ 128)
wide w h = let r = and_parts (nat_le 1 w) (nat_le w 128) h in (low r.0, high r.1)
  where
    low : nat_le 1 w ≡ true → 1 ≤ w
    low e = grind (arith, nat_tests)

    high : nat_le w 128 ≡ true → w ≤ 128
    high e = grind (arith, nat_tests)

ports_wide : (ps : List Port) → port_widths ps ≡ true → AreWide (as_pins ps)
ports_wide [] h = tt
ports_wide (p ∷ ps) h = let r = and_parts (is_width p.width) (port_widths ps) h in (wide p.width r.0, ports_wide ps r.1)

-- Pins of two kinds have names that differ.

abbrev port_names : List Port → List (List ℕ)
port_names ps = map (λ p. p.name) ps

not_kept : (f : Port → Bool) (ps : List Port) (n : List ℕ) → among (port_names ps) n ≡ false → among (names_of (as_pins (filter f ps))) n ≡ false
not_kept f [] n h = refl
not_kept f (p ∷ ps) n h = let r = or_parts (bytes_eq p.name n) (among (port_names ps) n) h in at (f p) r.0 (not_kept f ps n r.1)
  where
    at : (b : Bool) → bytes_eq p.name n ≡ false → among (names_of (as_pins (filter f ps))) n ≡ false → among (names_of (as_pins (if b then p ∷ filter f ps else filter f ps))) n ≡ false
    at true e k = or_from (bytes_eq p.name n) (among (names_of (as_pins (filter f ps))) n) e k
    at false e k = k

not_in_both : (xs ys : List (List ℕ)) (n : List ℕ) → among xs n ≡ false → among ys n ≡ false → among (xs ++ ys) n ≡ false
not_in_both xs ys n p q = among-append xs ys n ∙ or_from (among xs n) (among ys n) p q

two : (a b : Bool) → a ≡ false → b ≡ true → (not a && b) ≡ true
two a b p q = rw (p, q) refl

-- one more name stands between others
between : (xs ys : List (List ℕ)) (n : List ℕ) → distinct (xs ++ ys) ≡ true → among (xs ++ ys) n ≡ false → distinct (xs ++ (n ∷ ys)) ≡ true
between [] ys n d e = two (among ys n) (distinct ys) e d
between (a ∷ xs) ys n d e =
    let q = and_parts (not (among (xs ++ ys) a)) (distinct (xs ++ ys)) d in
    let r = or_parts (bytes_eq a n) (among (xs ++ ys) n) e in
    let s = or_parts (among xs a) (among ys a) (sym (among-append xs ys a) ∙ not-true (among (xs ++ ys) a) q.0) in
    let other : bytes_eq n a ≡ false = bytes_eq-swap n a ∙ r.0 in
    two (among (xs ++ (n ∷ ys)) a) (distinct (xs ++ (n ∷ ys))) (not_in_both xs (n ∷ ys) a s.0 (or_from (bytes_eq n a) (among ys a) other s.1)) (between xs ys n q.1 r.1)

module _ (f g : Port → Bool) (either_one : (p : Port) → f p ≡ true → g p ≡ false) where
  abbrev firsts : List Port → List (List ℕ)
  firsts ps = names_of (as_pins (filter f ps))

  abbrev seconds : List Port → List (List ℕ)
  seconds ps = names_of (as_pins (filter g ps))

  parted_at : (p : Port) (ps : List Port) (b c : Bool) → f p ≡ b → g p ≡ c → among (firsts ps ++ seconds ps) p.name ≡ false → distinct (firsts ps ++ seconds ps) ≡ true
      → distinct (names_of (as_pins (if b then p ∷ filter f ps else filter f ps)) ++ names_of (as_pins (if c then p ∷ filter g ps else filter g ps))) ≡ true
  parted_at p ps true true x y n d = absurd (both_ways (g p) (either_one p x) y)
  parted_at p ps true false x y n d = two (among (firsts ps ++ seconds ps) p.name) (distinct (firsts ps ++ seconds ps)) n d
  parted_at p ps false true x y n d = between (firsts ps) (seconds ps) p.name d n
  parted_at p ps false false x y n d = d

  parted : (ps : List Port) → distinct (port_names ps) ≡ true → distinct (firsts ps ++ seconds ps) ≡ true
  parted [] d = refl
  parted (p ∷ ps) d =
      let q = and_parts (not (among (port_names ps) p.name)) (distinct (port_names ps)) d in
      let new : among (port_names ps) p.name ≡ false = not-true (among (port_names ps) p.name) q.0 in
      parted_at p ps (f p) (g p) refl refl (not_in_both (firsts ps) (seconds ps) p.name (not_kept f ps p.name new) (not_kept g ps p.name new)) (parted ps q.1)

no_output : (p : Port) → is_data_input p ≡ true → is_output p ≡ false
no_output p h = let r = (and_parts (is_input p.dir) (not (bytes_eq p.name clock)) h).0 in rw r refl

names_front : (ps : List Port) (ns : List Net) → names (map port_net ps ++ ns) ≡ port_names ps ++ names ns
names_front [] ns = refl
names_front (p ∷ ps) ns = ap (λ z. p.name ∷ z) (names_front ps ns)

-- the names of a front of distinct names
front_distinct : (xs ys : List (List ℕ)) → distinct (xs ++ ys) ≡ true → distinct xs ≡ true
front_distinct [] ys d = refl
front_distinct (a ∷ xs) ys d =
    let q = and_parts (not (among (xs ++ ys) a)) (distinct (xs ++ ys)) d in
    let s = or_parts (among xs a) (among ys a) (sym (among-append xs ys a) ∙ not-true (among (xs ++ ys) a) q.0) in
    two (among xs a) (distinct xs) s.0 (front_distinct xs ys q.1)

module _ (bytes : List ℕ) (t : Tree) (tree : IsTree bytes t) (formed : IsWellFormed t) where
  named : AllByRecursion IsNamed (tokens_of t)
  named = tokens_named (tokens_of t) bytes tree.spelled

  all_named : AreNamed (as_pins t.ports)
  all_named = ports_named t.ports (each-left IsNamed (ports_tokens t.ports) _ named.1.1.1)

  all_wide : AreWide (as_pins t.ports)
  all_wide = ports_wide t.ports (and_parts (port_widths t.ports) (decl_widths t.decls) tree.ranges).0

  -- Rows of its pins, within the limits of a table, are read back.
  pub module_read_back : (ps : List Pin) (rows : List (List ℕ)) → ps ≡ inputs (module_of t) ++ outputs (module_of t) → AllFit ps rows → length rows ≤ most_times → length rows * length ps ≤ most_values
      → IsTable (dump_text (module_of t).name ps rows) ps rows
  module_read_back ps rows e fits few few_values = read_back t.name ps rows (record {
    named = named.1.0;
    names = subst AreNamed (sym e) (each-append (λ p. IsTrue (is_identifier p.name)) (inputs (module_of t)) (outputs (module_of t)) (each_kept _ port_pin is_data_input t.ports all_named) (each_kept _ port_pin is_output t.ports all_named));
    apart = ap (λ z. distinct (names_of z)) e ∙ (ap distinct (map-append (λ p. p.name) (inputs (module_of t)) (outputs (module_of t))) ∙ parted is_data_input is_output no_output t.ports once);
    widths = subst AreWide (sym e) (each-append (λ p. (1 ≤ p.width) × (p.width ≤ 128)) (inputs (module_of t)) (outputs (module_of t)) (each_kept _ port_pin is_data_input t.ports all_wide) (each_kept _ port_pin is_output t.ports all_wide));
    fits = fits;
    few_rows = few;
    few_values = few_values;
  })
    where
      once : distinct (port_names t.ports) ≡ true
      once = front_distinct (port_names t.ports) (names (map decl_net t.decls)) (ap distinct (sym (names_front t.ports (map decl_net t.decls))) ∙ formed.once)
