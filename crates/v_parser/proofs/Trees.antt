-- A module's tree from its parts.
use Rattle.std.proofs.Common.{◌≡◌, ℕ, ◌+◌, ◌-◌, List, [], ◌∷◌, ◌++◌, length, map, codes, refl, ap, sym, ◌∙◌, subst, append-nil, length-append, arith}
use Rattle.rb_base.specs.declared.ports.Port.{Port}
use Rattle.rb_base.specs.declared.place.Place.{Place}
use Rattle.rb_grammar.specs.Spelling.{At, tokens_of}
use Rattle.rb_grammar.specs.Readings.{Takes}
use Rattle.v_design.specs.Lexemes.{Token, Name}
use Rattle.v_design.specs.Tree.{Tree, quoted, range_tokens, port_tokens, ports_tokens, decls_tokens}
use Rattle.v_syntax.specs.declared.parsed.Parsed.{Parsed}
use Rattle.v_syntax.specs.declared.parsed.Event.{Event}
use Rattle.v_design.specs.declared.design.Stmt.{Stmt}
use Rattle.v_syntax.specs.Tokens.{place_at}
use Rattle.v_syntax.specs.Grammar.{Quoted, Identifier, grammar}
use Rattle.v_syntax.specs.Syntax.{names_from, starts_from, decls_from, statements_from, declared_places, AreStatements, IsSyntax}
use Rattle.v_parser.specs.Reading.{Spans, name_at, ReadsPort, AddsPorts, AddsDecls, AddsStatements}
use Rattle.v_parser.proofs.Spanning.{spans_one, spans_is, ◌then_spans◌, spans_as, span_length}
use Rattle.v_parser.proofs.Walking.{Tokens}
use Rattle.v_parser.proofs.Whole.{Shifts, shift_of, names_shift, starts_shift, names_with, all_tokens, ports_are, decls_are, statements_are}
use Rattle.plain_lemmas.proofs.Lists.{map-append as map_append}

span_all : {ts us : Tokens} {xs : List Token} → us ≡ [] → Spans ts us xs → tokens_of ts ≡ xs
span_all e s = ap tokens_of (s.list ∙ (ap (λ z. s.front ++ z) e ∙ append-nil s.front)) ∙ s.are

-- Where the places are.

declared_are : (t : Tree) (p : Port) (more : List Port) (place : Place) (others last all : List Place) (ts t3 t4 t7 : Tokens) → t.ports ≡ p ∷ more → all ≡ place ∷ (others ++ last) → Shifts 3 ts t3 → Shifts (3 + length (port_tokens p)) ts t4 → Shifts (decls_from t) ts t7
    → place.0 ≡ place_at t3 (1 + length (range_tokens p.width)) → map (λ p. p.0) others ≡ map (place_at t4) (names_from 1 (map (λ p. p.width) more)) → map (λ p. p.0) last ≡ map (place_at t7) (names_from 0 (map (λ d. d.width) t.decls))
    → map (λ p. p.0) all ≡ declared_places t ts
declared_are t p more place others last all ts t3 t4 t7 e f a b d at h k =
    let zero : decls_from t + 0 ≡ decls_from t = omega arith in
    let ports = names_with 3 p more place others ts t3 t4 a b at h in
    let decls = subst (λ n. map (place_at ts) (names_from n (map (λ d. d.width) t.decls)) ≡ map (place_at t7) (names_from 0 (map (λ d. d.width) t.decls))) zero (names_shift (decls_from t) 0 (map (λ d. d.width) t.decls) ts t7 d) in
    ap (map (λ p. p.0)) f ∙ (map_append (λ p. p.0) (place ∷ others) last ∙ (ap (λ z. z ++ map (λ p. p.0) last) ports ∙ (ap (λ z. map (place_at ts) (names_from 3 (map (λ p. p.width) (p ∷ more))) ++ z) (k ∙ sym decls)
    ∙ (sym (map_append (place_at ts) (names_from 3 (map (λ p. p.width) (p ∷ more))) (names_from (decls_from t) (map (λ d. d.width) t.decls)))
    ∙ ap (λ ps. map (place_at ts) (names_from 3 (map (λ p. p.width) ps) ++ names_from (decls_from t) (map (λ d. d.width) t.decls))) (sym e)))))

pub ports_to : {ts us : Tokens} (ps qs rs : List Port) (places others names : List Place) → ps ≡ qs → places ≡ others → AddsPorts ts us ps rs places names → AddsPorts ts us qs rs others names
ports_to {ts = ts} {us = us} ps qs rs places others names e f a = subst (λ z. AddsPorts ts us z rs others names) e (subst (λ z. AddsPorts ts us ps rs z names) f a)

pub statements_to : {ts us : Tokens} (ss : List Stmt) (events others all : List Event) → events ≡ others → AddsStatements ts us ss events all → AddsStatements ts us ss others all
statements_to {ts = ts} {us = us} ss events others all e a = subst (λ z. AddsStatements ts us ss z all) e a

pub module_read : (x : Parsed) (name : List ℕ) (a : ℕ) (p : Port) (place : Place) (names : List Place) {t0 t1 t2 t3 t4 t5 t6 t7 t8 t9 t10 : Tokens} {k0 k2 k5 k6 k9 : At Token} → x.name.now ≡ name → x.before ≡ length t0 - length t8
    → Takes grammar (Quoted (codes "module")) t0 k0 t1 → Takes grammar Identifier t1 (name_at name a) t2 → Takes grammar (Quoted (codes "(")) t2 k2 t3 → ReadsPort t3 t4 p place → AddsPorts t4 t5 (p ∷ []) x.ports.items (place ∷ []) names
    → Takes grammar (Quoted (codes ")")) t5 k5 t6 → Takes grammar (Quoted (codes ";")) t6 k6 t7 → AddsDecls t7 t8 x.decls.items names x.declared.items → AddsStatements t8 t9 x.stmts.items [] x.events.items → Takes grammar (Quoted (codes "endmodule")) t9 k9 t10
    → k0.token ≡ quoted "module" → k2.token ≡ quoted "(" → k5.token ≡ quoted ")" → k6.token ≡ quoted ";" → k9.token ≡ quoted "endmodule" → t10 ≡ [] → (t : Tree) × IsSyntax t0 x t
module_read x name a p place names {t0 = t0} {t3 = t3} {t4 = t4} {t7 = t7} {t8 = t8} en eb m n o r ps c s ds ss e e0 e2 e5 e6 e9 last =
    let ports = ports_are ps.4 in
    let decls = decls_are ds.2 in
    let stmts = statements_are ss.2 in
    let t : Tree = record { name = name; ports = p ∷ ps.0; decls = x.decls.items; stmts = stmts.trees } in
    let head : Spans t0 t3 (quoted "module" ∷ Name name ∷ quoted "(" ∷ []) = spans_is m e0 then_spans spans_one n then_spans spans_is o e2 in
    let first : Spans t0 t4 ((quoted "module" ∷ Name name ∷ quoted "(" ∷ []) ++ port_tokens p) = head then_spans r.spans in
    let header : Spans t0 t7 (quoted "module" ∷ Name name ∷ quoted "(" ∷ (ports_tokens (p ∷ ps.0) ++ (quoted ")" ∷ quoted ";" ∷ []))) =
    head then_spans spans_as (sym (all_tokens p ps.0)) (r.spans then_spans ports.spans) then_spans spans_is c e5 then_spans spans_is s e6 in
    let upto : Spans t0 t8 ((quoted "module" ∷ Name name ∷ quoted "(" ∷ (ports_tokens (p ∷ ps.0) ++ (quoted ")" ∷ quoted ";" ∷ []))) ++ decls_tokens x.decls.items) = header then_spans decls.spans in
    let whole = head then_spans spans_as (sym (all_tokens p ps.0)) (r.spans then_spans ports.spans) then_spans spans_is c e5 then_spans spans_is s e6 then_spans decls.spans then_spans stmts.spans then_spans spans_is e e9 in
    let size : length (quoted "module" ∷ Name name ∷ quoted "(" ∷ (ports_tokens (p ∷ ps.0) ++ (quoted ")" ∷ quoted ";" ∷ []))) ≡ decls_from t = omega (arith, length-append (ports_tokens (p ∷ ps.0)) (quoted ")" ∷ quoted ";" ∷ [])) in
    let more : length ((quoted "module" ∷ Name name ∷ quoted "(" ∷ (ports_tokens (p ∷ ps.0) ++ (quoted ")" ∷ quoted ";" ∷ []))) ++ decls_tokens x.decls.items) ≡ statements_from t =
    length-append (quoted "module" ∷ Name name ∷ quoted "(" ∷ (ports_tokens (p ∷ ps.0) ++ (quoted ")" ∷ quoted ";" ∷ []))) (decls_tokens x.decls.items) ∙ ap (λ n. n + length (decls_tokens x.decls.items)) size in
    let zero : statements_from t + 0 ≡ statements_from t = omega arith in
    let one : length ((quoted "module" ∷ Name name ∷ quoted "(" ∷ []) ++ port_tokens p) ≡ 3 + length (port_tokens p) = omega arith in
    let all : x.declared.items ≡ place ∷ (ps.1 ++ ds.0) = ds.1 ∙ ap (λ z. z ++ ds.0) ps.3 in
    let starts = subst (λ n. map (place_at t0) (starts_from n stmts.trees) ≡ map (place_at t8) (starts_from 0 stmts.trees)) zero (starts_shift (statements_from t) 0 stmts.trees t0 t8 (shift_of (statements_from t) more upto)) in (
      t,
      record {
        tokens = span_all last whole;
        shaped = record { ported = omega arith; ranges = rw (r.wide, ports.widths, decls.widths) refl };
        name = en;
        ports = ps.2;
        decls = refl;
        stmts = subst (λ z. AreStatements x.stmts.items z stmts.trees) (sym ss.1) stmts.are;
        declared = declared_are t p ps.0 place ps.1 ds.0 x.declared.items t0 t3 t4 t7 refl all (shift_of 3 refl head) (shift_of (3 + length (port_tokens p)) one first) (shift_of (decls_from t) size header) r.at ports.declared decls.declared;
        starts = stmts.starts ∙ sym starts;
        before = eb ∙ omega (arith, span_length upto, more);
      },
    )
