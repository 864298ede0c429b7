-- From what the parts of a module are to what its tokens say.
use Rattle.std.proofs.Common.{◌≡◌, ℕ, suc, ◌+◌, true, List, [], ◌∷◌, ◌++◌, length, map, codes, refl, ap, sym, ◌∙◌, append_assoc, append-nil, length-append, arith}
use Rattle.rb_base.specs.declared.ports.Port.{Port}
use Rattle.rb_base.specs.declared.place.Place.{Place}
use Rattle.rb_grammar.specs.Spelling.{At}
use Rattle.v_design.specs.Lexemes.{Token, Word, Name}
use Rattle.v_design.specs.Tree.{Statement, quoted, range_tokens, port_tokens, ports_tokens, decls_tokens, stmt_tokens, stmts_tokens, port_widths, decl_widths, decl_word}
use Rattle.v_design.specs.declared.design.Decl.{Decl}
use Rattle.v_design.specs.declared.design.Stmt.{Stmt}
use Rattle.v_syntax.specs.declared.parsed.Event.{Event}
use Rattle.v_syntax.specs.Tokens.{place_at}
use Rattle.v_syntax.specs.Grammar.{Quoted, is}
use Rattle.v_parser.proofs.Taking.{quoted_is}
use Rattle.v_syntax.specs.Syntax.{AreStatements, names_from, starts_from}
use Rattle.v_parser.specs.Reading.{Spans, decl_tokens, ReadsPorts, ReadsDecls, ReadsStatements, no_port, one_port, no_decl, one_decl, no_statement, one_statement}
use Rattle.v_parser.proofs.Spanning.{spans_none, spans_is, ◌then_spans◌, spans_as, span_place}
use Rattle.v_parser.proofs.Walking.{Tokens}

-- Numbers of tokens, counted from an earlier end.

abbrev pub Shifts : ℕ → Tokens → Tokens → Type 0
Shifts n ts us = (i : ℕ) → place_at ts (n + i) ≡ place_at us i

assoc : (a b c : ℕ) → a + b + c ≡ a + (b + c)
assoc a b c = omega arith

pub names_shift : (n k : ℕ) (ws : List ℕ) (ts us : Tokens) → Shifts n ts us → map (place_at ts) (names_from (n + k) ws) ≡ map (place_at us) (names_from k ws)
names_shift n k [] ts us h = refl
names_shift n k (w ∷ ws) ts us h =
    let r = length (range_tokens w) in
    let here : n + k + 1 + r ≡ n + (k + 1 + r) = omega arith in
    let on : n + k + 3 + r ≡ n + (k + 3 + r) = omega arith in
    rw (here, on, h (k + 1 + r), names_shift n (k + 3 + r) ws ts us h) refl

pub starts_shift : (n k : ℕ) (ss : List Statement) (ts us : Tokens) → Shifts n ts us → map (place_at ts) (starts_from (n + k) ss) ≡ map (place_at us) (starts_from k ss)
starts_shift n k [] ts us h = refl
starts_shift n k (s ∷ ss) ts us h = rw (assoc n k (length (stmt_tokens s)), h k, starts_shift n (k + length (stmt_tokens s)) ss ts us h) refl

pub shift_of : {ts us : Tokens} {xs : List Token} (n : ℕ) → length xs ≡ n → Spans ts us xs → Shifts n ts us
shift_of {ts = ts} n e s i = ap (λ m. place_at ts (m + i)) (sym e) ∙ span_place s i

-- Ports behind the first.

abbrev pub more_tokens : List Port → List Token
more_tokens [] = []
more_tokens (p ∷ ps) = quoted "," ∷ (port_tokens p ++ more_tokens ps)

pub all_tokens : (p : Port) (ps : List Port) → ports_tokens (p ∷ ps) ≡ port_tokens p ++ more_tokens ps
all_tokens p [] = sym (append-nil (port_tokens p))
all_tokens p (q ∷ ps) = ap (λ z. port_tokens p ++ (quoted "," ∷ z)) (all_tokens q ps)

pub port_length : (p : Port) → length (port_tokens p) ≡ length (range_tokens p.width) + 2
port_length p = omega (arith, length-append (range_tokens p.width) (Name p.name ∷ []))

pub record PortsAre (ts us : Tokens) (ps : List Port) (places : List Place) : Type 0 where
  pub spans : Spans ts us (more_tokens ps)
  pub widths : port_widths ps ≡ true
  pub declared : map (λ p. p.0) places ≡ map (place_at ts) (names_from 1 (map (λ p. p.width) ps))

-- the names of a port and of those behind it, where the port begins with this number
pub names_with : (k : ℕ) (p : Port) (ps : List Port) (place : Place) (places : List Place) (ts us vs : Tokens) → Shifts k ts us → Shifts (k + length (port_tokens p)) ts vs → place.0 ≡ place_at us (1 + length (range_tokens p.width))
    → map (λ p. p.0) places ≡ map (place_at vs) (names_from 1 (map (λ p. p.width) ps)) → map (λ p. p.0) (place ∷ places) ≡ map (place_at ts) (names_from k (map (λ p. p.width) (p ∷ ps)))
names_with k p ps place places ts us vs f g e h =
    let r = length (range_tokens p.width) in
    let here : k + 1 + r ≡ k + (1 + r) = omega arith in
    let on : k + 3 + r ≡ k + length (port_tokens p) + 1 = omega (arith, port_length p) in
    let behind = names_shift (k + length (port_tokens p)) 1 (map (λ p. p.width) ps) ts vs g in
    rw (here, on, f (1 + r), behind, ← e, ← h) refl

pub ports_are : {ts us : Tokens} {ps : List Port} {places : List Place} → ReadsPorts ts us ps places → PortsAre ts us ps places
ports_are no_port = record { spans = spans_none; widths = refl; declared = refl }
ports_are (one_port {ts = ts} {us = us} {vs = vs} {comma = comma} {p = p} {place = place} {ps = ps} {places = places} k r q) =
    let s = ports_are q in
    let one : Spans ts us (quoted "," ∷ []) = spans_is k (comma_is comma k.token) in
    let both : Spans ts vs ((quoted "," ∷ []) ++ port_tokens p) = one then_spans r.spans in
    record {
      spans = one then_spans r.spans then_spans s.spans;
      widths = rw (r.wide, s.widths) refl;
      declared = names_with 1 p ps place places ts us vs (shift_of 1 refl one) (shift_of (1 + length (port_tokens p)) (one_plus (length (port_tokens p))) both) r.at s.declared;
    }
  where
    comma_is : (t : At Token) → is (Quoted (codes ",")) t.token ≡ true → t.token ≡ quoted ","
    comma_is t h = quoted_is (codes ",") t.token h

    one_plus : (n : ℕ) → suc n ≡ 1 + n
    one_plus n = omega arith

-- Declarations.

decl_length : (d : Decl) → length (decl_tokens d) ≡ length (range_tokens d.width) + 3
decl_length d = omega (arith, length-append (range_tokens d.width) (Name d.name ∷ quoted ";" ∷ []))

pub record DeclsAre (ts us : Tokens) (ds : List Decl) (places : List Place) : Type 0 where
  pub spans : Spans ts us (decls_tokens ds)
  pub widths : decl_widths ds ≡ true
  pub declared : map (λ p. p.0) places ≡ map (place_at ts) (names_from 0 (map (λ d. d.width) ds))

pub decls_are : {ts us : Tokens} {ds : List Decl} {places : List Place} → ReadsDecls ts us ds places → DeclsAre ts us ds places
decls_are no_decl = record { spans = spans_none; widths = refl; declared = refl }
decls_are (one_decl {ts = ts} {us = us} {d = d} {place = place} {ds = ds} {places = places} r q) =
    let s = decls_are q in
    let n = length (range_tokens d.width) in
    let here : 0 + 1 + n ≡ 1 + n = omega arith in
    let on : 0 + 3 + n ≡ length (decl_tokens d) + 0 = omega (arith, decl_length d) in
    record {
      spans = spans_as (ap (λ z. Word (decl_word d.reg) ∷ z) (append_assoc (range_tokens d.width) (Name d.name ∷ quoted ";" ∷ []) (decls_tokens ds))) (r.spans then_spans s.spans);
      widths = rw (r.wide, s.widths) refl;
      declared = rw (here, on, names_shift (length (decl_tokens d)) 0 (map (λ d. d.width) ds) ts us (span_place r.spans), ← r.at, ← s.declared) refl;
    }

-- Statements.

pub record StatementsAre (ts us : Tokens) (ss : List Stmt) (es : List Event) : Type 0 where
  pub trees : List Statement
  pub spans : Spans ts us (stmts_tokens trees)
  pub are : AreStatements ss es trees
  pub starts : map (λ s. s.place.0) ss ≡ map (place_at ts) (starts_from 0 trees)

pub statements_are : {ts us : Tokens} {ss : List Stmt} {es : List Event} → ReadsStatements ts us ss es → StatementsAre ts us ss es
statements_are no_statement = record { trees = []; spans = spans_none; are = tt; starts = refl }
statements_are (one_statement {ts = ts} {us = us} r q) =
    let s = statements_are q in
    let n = length (stmt_tokens r.stmt) in
    let on : 0 + n ≡ n + 0 = omega arith in
    record {
      trees = r.stmt ∷ s.trees;
      spans = r.spans then_spans s.spans;
      are = (r.says, s.are);
      starts = rw (on, starts_shift n 0 s.trees ts us (span_place r.spans), ← r.at, ← s.starts) refl;
    }
