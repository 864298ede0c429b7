-- Loops over ports and declarations.
use Rattle.std.proofs.Common.{◌≡◌, ◌<◌, ◌||◌, true, false, List, [], ◌∷◌, ◌++◌, length, codes, refl, ap, sym, ◌∙◌, subst, append_assoc, append-nil, arith, inl, inr}
use Rattle.std.proofs.lemmas.Bool.{or_cases, or_parts}
use Rattle.rb_base.specs.declared.ports.Port.{Port}
use Rattle.rb_base.specs.declared.place.Place.{Place}
use Rattle.rb_grammar.specs.Forms.{Non, Many}
use Rattle.rb_grammar.specs.Readings.{at, Same}
use Rattle.rb_grammar.proofs.Barring.{Here, Without}
use Rattle.rb_grammar.proofs.Steps.{opening}
use Rattle.v_design.specs.declared.design.Decl.{Decl}
use Rattle.v_design.specs.declared.design.Stmt.{Stmt}
use Rattle.v_syntax.specs.declared.parsed.Event.{Event}
use Rattle.v_syntax.specs.Grammar.{Quoted, grammar}
use Rattle.v_syntax.specs.Grammar as rules
use Rattle.v_parser.specs.Reading.{after_decls, ReadsPort, ReadsDecl, ReadsPorts, ReadsDecls, ReadsStatements, no_port, no_decl, no_statement, AddsPorts, AddsDecls, AddsStatements}
use Rattle.v_parser.proofs.Firsts.{right}
use Rattle.v_parser.proofs.Spanning.{span_length}
use Rattle.v_parser.proofs.Walking.{Tokens}

pub decl_shorter : {ts us : Tokens} {d : Decl} {place : Place} → ReadsDecl ts us d place → length us < length ts
decl_shorter r = omega (arith, span_length r.spans)

pub port_shorter : {ts us : Tokens} {p : Port} {place : Place} → ReadsPort ts us p place → length us < length ts
port_shorter r = omega (arith, span_length r.spans)

pub one_more : {ts : Tokens} → (at grammar (Quoted (codes "wire")) ts || at grammar (Quoted (codes "reg")) ts) ≡ true → Same grammar after_decls (Many (Non rules.Decl) ∷ []) ts (Non rules.Decl ∷ Many (Non rules.Decl) ∷ []) ts
one_more {ts = ts} h = elim (or_cases (at grammar (Quoted (codes "wire")) ts) (at grammar (Quoted (codes "reg")) ts) h) [
  | inl p ↦ opening right (Here (Quoted (codes "wire"))) refl p
  | inr p ↦ opening right (Here (Quoted (codes "reg"))) refl p
]

pub no_more : {ts : Tokens} → (at grammar (Quoted (codes "wire")) ts || at grammar (Quoted (codes "reg")) ts) ≡ false → Same grammar after_decls (Many (Non rules.Decl) ∷ []) ts [] ts
no_more {ts = ts} h =
    let p = or_parts (at grammar (Quoted (codes "wire")) ts) (at grammar (Quoted (codes "reg")) ts) h in
    opening right (Without (Quoted (codes "wire") ∷ Quoted (codes "reg") ∷ [])) refl (p.0, (p.1, tt))

-- What was added so far, and what more is added.

pub record PortsSoFar (ts us : Tokens) (ps qs : List Port) (places names : List Place) : Type 0 where
  pub more : List Port
  pub others : List Place
  pub ports : qs ≡ ps ++ more
  pub declared : names ≡ places ++ others
  pub tree : (vs : Tokens) (rs : List Port) (left : List Place) → ReadsPorts us vs rs left → ReadsPorts ts vs (more ++ rs) (others ++ left)

pub ports_begun : (ts : Tokens) (ps : List Port) (places : List Place) → PortsSoFar ts ts ps ps places places
ports_begun ts ps places = record { more = []; others = []; ports = sym (append-nil ps); declared = sym (append-nil places); tree = λ vs rs left r. r }

pub ports_more : (p : Port) (place : Place) (ps qs os : List Port) (places names all : List Place) {ts us vs : Tokens} → os ≡ qs ++ p ∷ [] → all ≡ names ++ place ∷ [] → PortsSoFar ts us ps qs places names
    → ((ws : Tokens) (rs : List Port) (left : List Place) → ReadsPorts vs ws rs left → ReadsPorts us ws (p ∷ rs) (place ∷ left)) → PortsSoFar ts vs ps os places all
ports_more p place ps qs os places names all {ts = ts} e f s g = record {
  more = s.more ++ p ∷ [];
  others = s.others ++ place ∷ [];
  ports = e ∙ (ap (λ z. z ++ p ∷ []) s.ports ∙ append_assoc ps s.more (p ∷ []));
  declared = f ∙ (ap (λ z. z ++ place ∷ []) s.declared ∙ append_assoc places s.others (place ∷ []));
  tree = λ ws rs left r. rw (append_assoc s.more (p ∷ []) rs, append_assoc s.others (place ∷ []) left) (s.tree ws (p ∷ rs) (place ∷ left) (g ws rs left r));
}

pub ports_done : (ps qs : List Port) (places names : List Place) {ts us vs : Tokens} → vs ≡ us → PortsSoFar ts us ps qs places names → AddsPorts ts vs ps qs places names
ports_done ps qs places names {ts = ts} {us = us} e s = rw e (s.more, s.others, s.ports, s.declared, subst (λ z. ReadsPorts ts us z s.others) (append-nil s.more) (subst (λ z. ReadsPorts ts us (s.more ++ []) z) (append-nil s.others) (s.tree us [] [] no_port)))

pub record DeclsSoFar (ts us : Tokens) (ds : List Decl) (places names : List Place) : Type 0 where
  pub others : List Place
  pub declared : names ≡ places ++ others
  pub tree : (vs : Tokens) (rs : List Decl) (left : List Place) → ReadsDecls us vs rs left → ReadsDecls ts vs (ds ++ rs) (others ++ left)

pub decls_begun : (ts : Tokens) (places : List Place) → DeclsSoFar ts ts [] places places
decls_begun ts places = record { others = []; declared = sym (append-nil places); tree = λ vs rs left r. r }

pub decls_more : (d : Decl) (place : Place) (ds os : List Decl) (places names all : List Place) {ts us vs : Tokens} → os ≡ ds ++ d ∷ [] → all ≡ names ++ place ∷ [] → DeclsSoFar ts us ds places names
    → ((ws : Tokens) (rs : List Decl) (left : List Place) → ReadsDecls vs ws rs left → ReadsDecls us ws (d ∷ rs) (place ∷ left)) → DeclsSoFar ts vs os places all
decls_more d place ds os places names all {ts = ts} e f s g = record {
  others = s.others ++ place ∷ [];
  declared = f ∙ (ap (λ z. z ++ place ∷ []) s.declared ∙ append_assoc places s.others (place ∷ []));
  tree = λ ws rs left r. rw (e, append_assoc ds (d ∷ []) rs, append_assoc s.others (place ∷ []) left) (s.tree ws (d ∷ rs) (place ∷ left) (g ws rs left r));
}

pub decls_done : (ds : List Decl) (places names : List Place) {ts us : Tokens} → DeclsSoFar ts us ds places names → AddsDecls ts us ds places names
decls_done ds places names {ts = ts} {us = us} s = (s.others, s.declared, subst (λ z. ReadsDecls ts us z s.others) (append-nil ds) (subst (λ z. ReadsDecls ts us (ds ++ []) z) (append-nil s.others) (s.tree us [] [] no_decl)))

pub record StatementsSoFar (ts us : Tokens) (ss : List Stmt) (events all : List Event) : Type 0 where
  pub others : List Event
  pub added : all ≡ events ++ others
  pub tree : (vs : Tokens) (rs : List Stmt) (left : List Event) → ReadsStatements us vs rs left → ReadsStatements ts vs (ss ++ rs) (others ++ left)

pub statements_begun : (ts : Tokens) (events : List Event) → StatementsSoFar ts ts [] events events
statements_begun ts events = record { others = []; added = sym (append-nil events); tree = λ vs rs left r. r }

pub statements_more : (s : Stmt) (e : Event) (ss os : List Stmt) (events names all : List Event) {ts us vs : Tokens} → os ≡ ss ++ s ∷ [] → all ≡ names ++ e ∷ [] → StatementsSoFar ts us ss events names
    → ((ws : Tokens) (rs : List Stmt) (left : List Event) → ReadsStatements vs ws rs left → ReadsStatements us ws (s ∷ rs) (e ∷ left)) → StatementsSoFar ts vs os events all
statements_more s e ss os events names all {ts = ts} f g k h = record {
  others = k.others ++ e ∷ [];
  added = g ∙ (ap (λ z. z ++ e ∷ []) k.added ∙ append_assoc events k.others (e ∷ []));
  tree = λ ws rs left r. rw (f, append_assoc ss (s ∷ []) rs, append_assoc k.others (e ∷ []) left) (k.tree ws (s ∷ rs) (e ∷ left) (h ws rs left r));
}

pub statements_done : (ss : List Stmt) (events all : List Event) {ts us : Tokens} → StatementsSoFar ts us ss events all → AddsStatements ts us ss events all
statements_done ss events all {ts = ts} {us = us} k = (k.others, k.added, subst (λ z. ReadsStatements ts us z k.others) (append-nil ss) (subst (λ z. ReadsStatements ts us (ss ++ []) z) (append-nil k.others) (k.tree us [] [] no_statement)))
