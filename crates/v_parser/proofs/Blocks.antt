-- Statements.
use Rattle.std.specs.Borrow.{Bor}
use Rattle.std.proofs.Common.{◌≡◌, ℕ, ◌+◌, ◌<◌, ◌||◌, Bool, true, false, Some, None, List, [], ◌∷◌, ◌++◌, length, codes, refl, ap, sym, ◌∙◌, subst, append_assoc, arith, inl, inr}
use Rattle.std.proofs.lemmas.Bool.{or_cases, or_parts}
use Rattle.rb_base.specs.declared.place.Place.{Place}
use Rattle.rb_grammar.specs.Spelling.{At}
use Rattle.rb_grammar.specs.Forms.{Non, Many}
use Rattle.rb_grammar.specs.Readings.{at, Takes, Same}
use Rattle.rb_grammar.proofs.Barring.{Here, Without}
use Rattle.rb_grammar.proofs.Steps.{opening}
use Rattle.v_design.specs.Lexemes.{Token, Word, Name}
use Rattle.v_design.specs.Lexemes as token
use Rattle.v_design.specs.Tree.{Assign, Clocked, Resettable, quoted, edge_word, negation, stmt_tokens, term_tokens}
use Rattle.v_design.specs.declared.design.VExpr.{VExpr}
use Rattle.v_design.specs.declared.design.Stmt.{Stmt}
use Rattle.v_syntax.specs.declared.parsed.Event.{Event}
use Rattle.v_syntax.specs.declared.parsed.Event.TheVariants as event
use Rattle.v_syntax.specs.Grammar.{Terminal, Quoted, Identifier, Constant, grammar}
use Rattle.v_syntax.specs.Grammar as rules
use Rattle.v_parser.specs.Reading.{Spans, TakesOne, word_at, name_at, after_stmts, ReadsTerm, ReadsEdge, ReadsNegation, ReadsStatement, ReadsReset, ReadsMarked, ReadsClock, ReadsEvent, ReadsTest, ReadsValue}
use Rattle.v_parser.proofs.Firsts.{right}
use Rattle.v_parser.proofs.Spanning.{spans_one, spans_some, ◌then_spans◌, spans_as, spans_from, spans_is, span_length, taken_place}
use Rattle.v_parser.proofs.Walking.{Tokens}

pub marked_read : (mark : List ℕ) (to : List ℕ) (p : ℕ) (x : VExpr) {ts us vs ws xs : Tokens} {middle end : At Token} → Takes grammar Identifier ts (name_at to p) us → Takes grammar (Quoted mark) us middle vs → ReadsTerm vs ws x
    → Takes grammar (Quoted (codes ";")) ws end xs → middle.token ≡ Word mark → end.token ≡ quoted ";" → ReadsMarked (Word mark) ts xs to x
marked_read mark to p x n m e d em ed = (e.0, spans_one n then_spans spans_is m em then_spans e.1 then_spans spans_is d ed, e.2)

pub assign_read : (place : Place) (to bytes : List ℕ) (x : VExpr) {ts us vs : Tokens} → to ≡ bytes → Takes grammar (Quoted (codes "assign")) ts (word_at (codes "assign") place.0) us → ReadsMarked (quoted "=") us vs bytes x
    → ReadsStatement ts vs (record { to = to; clocked = false; reset = None; expr = x; place = place }) event.None
assign_read place to bytes x f k e = record {
  stmt = Assign bytes e.0;
  spans = spans_one k then_spans e.1;
  says = record { does = rw (f, e.2) refl; spells = tt };
  at = sym (taken_place k);
}

pub clock_read : (place : Place) (clock : List ℕ) (p : ℕ) {ts us vs ws xs ys : Tokens} {sign opener edge : At Token} → Takes grammar (Quoted (codes "always")) ts (word_at (codes "always") place.0) us → Takes grammar (Quoted (codes "@")) us sign vs
    → Takes grammar (Quoted (codes "(")) vs opener ws → Takes grammar (Quoted (codes "posedge")) ws edge xs → Takes grammar Identifier xs (name_at clock p) ys → sign.token ≡ quoted "@" → opener.token ≡ quoted "(" → edge.token ≡ quoted "posedge" → ReadsClock ts ys place clock
clock_read place clock p k s o g n es eo eg = record { spans = spans_one k then_spans spans_is s es then_spans spans_is o eo then_spans spans_is g eg then_spans spans_one n; at = sym (taken_place k) }

pub block_read : (place : Place) (clock : Bor (List ℕ)) (to bytes : List ℕ) (x : VExpr) {ts us vs ws : Tokens} {close : At Token} → to ≡ bytes → ReadsClock ts us place clock.now → Takes grammar (Quoted (codes ")")) us close vs
    → ReadsMarked (quoted "<=") vs ws bytes x → close.token ≡ quoted ")" → ReadsStatement ts ws (record { to = to; clocked = true; reset = None; expr = x; place = place }) (event.Clock clock)
block_read place clock to bytes x f k c e ec = record {
  stmt = Clocked clock.now bytes e.0;
  spans = k.spans then_spans spans_is c ec then_spans e.1;
  says = record { does = rw (f, e.2) refl; spells = refl };
  at = k.at;
}

pub event_read : (low : Bool) (pin : List ℕ) (p : ℕ) {ts us vs ws xs : Tokens} {first close : At Token} → Takes grammar (Quoted (codes "or")) ts first us → ReadsEdge us vs low → Takes grammar Identifier vs (name_at pin p) ws
    → Takes grammar (Quoted (codes ")")) ws close xs → first.token ≡ quoted "or" → close.token ≡ quoted ")" → ReadsEvent ts xs low pin
event_read low pin p o e n c eo ec = spans_is o eo then_spans e then_spans spans_one n then_spans spans_is c ec

pub test_read : (negated : Bool) (test : List ℕ) (p : ℕ) {ts us vs ws xs ys : Tokens} {first opener close : At Token} → Takes grammar (Quoted (codes "if")) ts first us → Takes grammar (Quoted (codes "(")) us opener vs → ReadsNegation vs ws negated
    → Takes grammar Identifier ws (name_at test p) xs → Takes grammar (Quoted (codes ")")) xs close ys → first.token ≡ quoted "if" → opener.token ≡ quoted "(" → close.token ≡ quoted ")" → ReadsTest ts ys negated test
test_read negated test p i o b n c ei eo ec = spans_is i ei then_spans spans_is o eo then_spans b then_spans spans_one n then_spans spans_is c ec

pub value_read : (to : List ℕ) (p width value : ℕ) {ts us vs ws xs : Tokens} {arrow end : At Token} → Takes grammar Identifier ts (name_at to p) us → Takes grammar (Quoted (codes "<=")) us arrow vs → TakesOne Constant (token.Const width value) vs ws
    → Takes grammar (Quoted (codes ";")) ws end xs → arrow.token ≡ quoted "<=" → end.token ≡ quoted ";" → ReadsValue ts xs to width value
value_read to p width value n a k d ea ed = spans_one n then_spans spans_is a ea then_spans spans_some k then_spans spans_is d ed

pub reset_read : (place : Place) (clock test again : Bor (List ℕ)) (pin pin_bytes to to_bytes : List ℕ) (low negated : Bool) (width value : ℕ) (x : VExpr) {ts us vs ws xs ys : Tokens} {other : At Token} → pin ≡ pin_bytes → to ≡ to_bytes
    → ReadsEvent ts us low pin_bytes → ReadsTest us vs negated test.now → ReadsValue vs ws to_bytes width value → Takes grammar (Quoted (codes "else")) ws other xs → ReadsMarked (quoted "<=") xs ys again.now x → other.token ≡ quoted "else"
    → ReadsReset clock.now place.0 ts ys (record { to = to; clocked = true; reset = Some (record { pin = pin; low = low; width = width; value = value }); expr = x; place = place }) (event.Reset clock negated test again)
reset_read place clock test again pin pin_bytes to to_bytes low negated width value x {us = us} {ys = ys} f g a b c o e eo =
    let rest = Name to_bytes ∷ quoted "<=" ∷ token.Const width value ∷ quoted ";" ∷ quoted "else" ∷ Name again.now ∷ quoted "<=" ∷ (term_tokens e.0 ++ quoted ";" ∷ []) in
    let tested : Spans us ys (quoted "if" ∷ quoted "(" ∷ (negation negated ++ (Name test.now ∷ quoted ")" ∷ rest))) =
    spans_as (ap (λ z. quoted "if" ∷ quoted "(" ∷ z) (append_assoc (negation negated) (Name test.now ∷ quoted ")" ∷ []) rest)) (b then_spans c then_spans spans_is o eo then_spans e.1) in
    record {
      tail = quoted "or" ∷ Word (edge_word low) ∷ Name pin_bytes ∷ quoted ")" ∷ quoted "if" ∷ quoted "(" ∷ (negation negated ++ (Name test.now ∷ quoted ")" ∷ rest));
      stmt = Resettable clock.now low pin_bytes negated test.now to_bytes width value again.now e.0;
      spans = a then_spans tested;
      tokens = refl;
      says = record { does = rw (f, g, e.2) refl; spells = (refl, refl, refl, refl) };
      at = refl;
    }

-- a block whose event goes on with a reset
pub behind_clock : (place : Place) (clock : List ℕ) (s : Stmt) (e : Event) {ts us vs ws : Tokens} → ReadsClock ts us place clock → vs ≡ us → ReadsReset clock place.0 vs ws s e → ReadsStatement ts ws s e
behind_clock place clock s e k m r = record {
  stmt = r.stmt;
  spans = spans_as (sym r.tokens) (k.spans then_spans spans_from m r.spans);
  says = r.says;
  at = r.at ∙ k.at;
}

pub statement_from : (s : Stmt) (e : Event) {ts us vs : Tokens} → us ≡ ts → ReadsStatement us vs s e → ReadsStatement ts vs s e
statement_from s e {vs = vs} f r = subst (λ z. ReadsStatement z vs s e) f r

pub statement_shorter : {ts us : Tokens} {s : Stmt} {e : Event} → ReadsStatement ts us s e → length us < length ts
statement_shorter {ts = ts} {us = us} r = go r.stmt (span_length r.spans)
  where
    go : (t : _) → length ts ≡ length (stmt_tokens t) + length us → length us < length ts
    go (Assign to e) h = omega (arith, h)
    go (Clocked clock to e) h = omega (arith, h)
    go (Resettable clock low reset negated test to width value again e) h = omega (arith, h)

-- the loop over statements

pub one_more : {ts : Tokens} → (at grammar (Quoted (codes "assign")) ts || at grammar (Quoted (codes "always")) ts) ≡ true → Same grammar after_stmts (Many (Non rules.Stmt) ∷ []) ts (Non rules.Stmt ∷ Many (Non rules.Stmt) ∷ []) ts
one_more {ts = ts} h = elim (or_cases (at grammar (Quoted (codes "assign")) ts) (at grammar (Quoted (codes "always")) ts) h) [
  | inl p ↦ opening right (Here (Quoted (codes "assign"))) refl p
  | inr p ↦ opening right (Here (Quoted (codes "always"))) refl p
]

pub no_more : {ts : Tokens} → (at grammar (Quoted (codes "assign")) ts || at grammar (Quoted (codes "always")) ts) ≡ false → Same grammar after_stmts (Many (Non rules.Stmt) ∷ []) ts [] ts
no_more {ts = ts} h =
    let p = or_parts (at grammar (Quoted (codes "assign")) ts) (at grammar (Quoted (codes "always")) ts) h in
    opening right (Without (Quoted (codes "assign") ∷ Quoted (codes "always") ∷ [])) refl (p.0, (p.1, tt))
