-- Expressions and operands.
use Rattle.std.proofs.Common.{◌≡◌, ℕ, min, Result, Ok, Err, IfOk, List, [], ◌∷◌, ◌++◌, codes, refl, ap, sym, ◌∙◌, append_assoc, rules, Vec, Global}
use Rattle.rb_grammar.specs.declared.stop.Stop.{Stop}
use Rattle.rb_grammar.specs.Spelling.{At}
use Rattle.rb_grammar.specs.Readings.{Takes}
use Rattle.v_design.specs.Lexemes.{Token, Word, Name, Number}
use Rattle.v_design.specs.Lexemes as token
use Rattle.v_design.specs.Expr.{Expr, Exprs, Net, Bits, Const, Cat, One, Two, Pick, none, more}
use Rattle.v_design.specs.Tree.{Term, Operand, Operands, Plain, Prefixed, Joined, Chosen, Whole, Bit, Part, Sized, Braced, Grouped, no_more, and_also, quoted, term_tokens, operand_tokens, operands_tokens}
use Rattle.v_design.specs.Design.{expr_of, operand_of, operands_of}
use Rattle.v_design.specs.Seen.{expr_seen, exprs_seen}
use Rattle.v_design.specs.declared.design.VOne.{VOne}
use Rattle.v_design.specs.declared.design.VTwo.{VTwo}
use Rattle.v_design.specs.declared.design.VExpr.{VExpr, Row_of-VExpr, end_of-VExpr, more_of-VExpr, items-the_row-VExpr}
use Rattle.v_design.specs.declared.design.VExpr.TheVariants.{Cat as cat_of}
use Rattle.v_design.specs.declared.design.VExpr.TheViews.{the_lemmas}
use Rattle.v_syntax.specs.Syntax.{capped, capped_all}
use Rattle.v_syntax.specs.Grammar.{Quoted, Identifier, Decimal, Constant, grammar}
use Rattle.v_parser.specs.Reading.{Spans, TakesOne, name_at, IsPrefix, IsInfix, ReadsTerm, ReadsOperand, ReadsSelect}
use Rattle.v_parser.proofs.Spanning.{spans_none, spans_same, spans_one, spans_some, ◌then_spans◌, spans_as, spans_from, spans_is, spans_to}
use Rattle.v_parser.proofs.Walking.{Tokens}
use Rattle.v_parser.proofs.Marks.{prefix_spans, infix_spans}

-- Behind a name.

abbrev Selects : List ℕ → Tokens → Tokens → Expr → Type 0
Selects name ts us x = (a : Operand) × (tail : List Token) × (operand_tokens a ≡ Name name ∷ tail) × Spans ts us tail × (x ≡ capped (operand_of a))

pub select_whole : (name field : List ℕ) {ts us : Tokens} → field ≡ name → us ≡ ts → Selects name ts us (Net field)
select_whole name field f e = (Whole name, [], refl, spans_same e, ap Net f)

abbrev TakesNumber : ℕ → Tokens → Tokens → Type 0
TakesNumber number ts us = (n : ℕ) × TakesOne Decimal (Number n) ts us × (number ≡ min n 255)

pub select_part : (name field : List ℕ) (high low : ℕ) {ts us vs ws xs ys : Tokens} {opener colon closer : At Token} → field ≡ name → Takes grammar (Quoted (codes "[")) ts opener us → TakesNumber high us vs
    → Takes grammar (Quoted (codes ":")) vs colon ws → TakesNumber low ws xs → Takes grammar (Quoted (codes "]")) xs closer ys → opener.token ≡ quoted "[" → colon.token ≡ quoted ":" → closer.token ≡ quoted "]"
    → Selects name ts ys (Bits field high low)
select_part name field high low f o h c l d eo ec ed = (
  Part name h.0 l.0,
  quoted "[" ∷ Number h.0 ∷ quoted ":" ∷ Number l.0 ∷ quoted "]" ∷ [],
  refl,
  spans_as (rw (eo, ec, ed) refl) (spans_one o then_spans spans_some h.1 then_spans spans_one c then_spans spans_some l.1 then_spans spans_one d),
  rw (f, h.2, l.2) refl,
)

pub select_bit : (name field : List ℕ) (high : ℕ) {ts us vs ws xs : Tokens} {opener closer : At Token} → field ≡ name → Takes grammar (Quoted (codes "[")) ts opener us → TakesNumber high us vs
    → ws ≡ vs → Takes grammar (Quoted (codes "]")) ws closer xs → opener.token ≡ quoted "[" → closer.token ≡ quoted "]" → Selects name ts xs (Bits field high high)
select_bit name field high f o h m d eo ed = (
  Bit name h.0,
  quoted "[" ∷ Number h.0 ∷ quoted "]" ∷ [],
  refl,
  spans_as (rw (eo, ed) refl) (spans_one o then_spans spans_some h.1 then_spans spans_from m (spans_one d)),
  rw (f, h.2) refl,
)

-- Operands.

pub operand_named : (name : List ℕ) (place : ℕ) (x : VExpr) {ts us vs : Tokens} → Takes grammar Identifier ts (name_at name place) us → ReadsSelect name us vs x → ReadsOperand ts vs x
operand_named name place x k s = (s.0, spans_as (sym s.2) (spans_one k then_spans s.3), s.4)

abbrev IsOperand : Tokens → Tokens → Expr → Type 0
IsOperand ts us x = (a : Operand) × Spans ts us (operand_tokens a) × (x ≡ capped (operand_of a))

pub operand_constant : (width value : ℕ) {ts us vs : Tokens} → us ≡ ts → TakesOne Constant (token.Const width value) us vs → IsOperand ts vs (Const width value)
operand_constant width value e k = (Sized width value, spans_from e (spans_some k), refl)

pub operand_grouped : (x : VExpr) {ts us vs ws xs ys zs : Tokens} {opener closer : At Token} → us ≡ ts → vs ≡ us → ws ≡ vs → Takes grammar (Quoted (codes "(")) ws opener xs → ReadsTerm xs ys x → Takes grammar (Quoted (codes ")")) ys closer zs
    → opener.token ≡ quoted "(" → closer.token ≡ quoted ")" → ReadsOperand ts zs x
operand_grouped x e f g o t d eo ed = (
  Grouped t.0,
  spans_from (g ∙ (f ∙ e)) (spans_is o eo then_spans t.1 then_spans spans_is d ed),
  t.2,
)

-- Concatenations.

-- the expressions of a list
abbrev pub listed : List VExpr → Exprs
listed [] = none
listed (e ∷ es) = more (expr_seen e) (listed es)

row_listed : (n : _) (row : Row_of-VExpr n) → exprs_seen row ≡ listed (items-the_row-VExpr n row)
row_listed _ end_of-VExpr = refl
row_listed _ (more_of-VExpr e rest) = ap (λ z. more (expr_seen e) z) (row_listed _ rest)

-- a concatenation is seen as the list of its parts
pub cat_seen : (v : Vec VExpr Global) → expr_seen (cat_of v) ≡ Cat (listed v.items)
cat_seen v = search (rules, the_lemmas, row_listed)

-- operands, each behind a comma
pub record ReadsRest (ts us : Tokens) (xs : List VExpr) : Type 0 where
  pub rest : Operands
  pub spans : Spans ts us (operands_tokens rest)
  pub seen : listed xs ≡ capped_all (operands_of rest)

-- {, an operand, and others
pub record ReadsParts (ts us : Tokens) (xs : List VExpr) : Type 0 where
  pub first : Operand
  pub rest : Operands
  pub spans : Spans ts us (quoted "{" ∷ (operand_tokens first ++ operands_tokens rest))
  pub seen : listed xs ≡ capped_all (more (operand_of first) (operands_of rest))

pub rest_none : (ts : Tokens) → ReadsRest ts ts []
rest_none ts = record { rest = no_more; spans = spans_none; seen = refl }

pub rest_more : (x : VExpr) (xs : List VExpr) {ts us vs ws : Tokens} {comma : At Token} → Takes grammar (Quoted (codes ",")) ts comma us → comma.token ≡ quoted "," → ReadsOperand us vs x → ReadsRest vs ws xs → ReadsRest ts ws (x ∷ xs)
rest_more x xs k e o r = record {
  rest = and_also o.0 r.rest;
  spans = spans_is k e then_spans o.1 then_spans r.spans;
  seen = rw (o.2, r.seen) refl;
}

pub parts_begun : (x : VExpr) (xs : List VExpr) {ss rs ts us vs ws : Tokens} {opener : At Token} → rs ≡ ss → ts ≡ rs → Takes grammar (Quoted (codes "{")) ts opener us → opener.token ≡ quoted "{" → ReadsOperand us vs x → ReadsRest vs ws xs → ReadsParts ss ws (x ∷ xs)
parts_begun x xs f g k e o r = record {
  first = o.0;
  rest = r.rest;
  spans = spans_from (g ∙ f) (spans_is k e then_spans o.1 then_spans r.spans);
  seen = rw (o.2, r.seen) refl;
}

pub operand_braced : (v : Vec VExpr Global) {ts us vs ws : Tokens} {closer : At Token} → ReadsParts ts us v.items → vs ≡ us → Takes grammar (Quoted (codes "}")) vs closer ws → closer.token ≡ quoted "}" → ReadsOperand ts ws (cat_of v)
operand_braced v p m d e = (
  Braced p.first p.rest,
  spans_as (ap (λ z. quoted "{" ∷ z) (append_assoc (operand_tokens p.first) (operands_tokens p.rest) (quoted "}" ∷ []))) (p.spans then_spans spans_from m (spans_is d e)),
  cat_seen v ∙ ap Cat p.seen,
)

-- Expressions.

abbrev IsTerm : Tokens → Tokens → Expr → Type 0
IsTerm ts us x = (e : Term) × Spans ts us (term_tokens e) × (x ≡ capped (expr_of e))

pub term_prefixed : (op : VOne) (x boxed : VExpr) {ts us vs : Tokens} → boxed ≡ x → IsPrefix ts us op → ReadsOperand us vs x → IsTerm ts vs (One op (expr_seen boxed))
term_prefixed op x boxed f p o = (Prefixed op o.0, prefix_spans op p then_spans o.1, rw (f, o.2) refl)

pub term_plain : (x : VExpr) {ts us vs ws xs : Tokens} → us ≡ ts → ReadsOperand us vs x → ws ≡ vs → xs ≡ ws → ReadsTerm ts xs x
term_plain x e o f g = (Plain o.0, spans_from e (spans_to (g ∙ f) o.1), o.2)

pub term_joined : (op : VTwo) (x y : VExpr) {ts us vs ws xs : Tokens} (r : Result VExpr Stop) → IfOk r (λ e. expr_seen e ≡ Two op (expr_seen x) (expr_seen y)) → us ≡ ts → ReadsOperand us vs x → IsInfix vs ws op → ReadsOperand ws xs y
    → IfOk r (ReadsTerm ts xs)
term_joined op x y (Ok e) f g a p b = (Joined op a.0 b.0, spans_from g (a.1 then_spans infix_spans op p then_spans b.1), f ∙ rw (a.2, b.2) refl)
term_joined op x y (Err stop) f g a p b = tt

pub term_chosen : (x y z : VExpr) {ts us vs ws xs ys : Tokens} {mark colon : At Token} (r : Result VExpr Stop) → IfOk r (λ e. expr_seen e ≡ Pick (expr_seen x) (expr_seen y) (expr_seen z)) → ReadsOperand ts us x → Takes grammar (Quoted (codes "?")) us mark vs
    → ReadsOperand vs ws y → Takes grammar (Quoted (codes ":")) ws colon xs → ReadsOperand xs ys z → mark.token ≡ quoted "?" → colon.token ≡ quoted ":" → IfOk r (ReadsTerm ts ys)
term_chosen x y z (Ok e) f a m b c d em ec = (
  Chosen a.0 b.0 d.0,
  a.1 then_spans spans_is m em then_spans b.1 then_spans spans_is c ec then_spans d.1,
  f ∙ rw (a.2, b.2, d.2) refl,
)
term_chosen x y z (Err stop) f a m b c d em ec = tt

-- an operand, where what was left has been left since
pub operand_stays : (x : VExpr) {ts us vs ws : Tokens} → us ≡ ts → ReadsOperand us vs x → ws ≡ vs → ReadsOperand ts ws x
operand_stays x e a f = (a.0, spans_from e (spans_to f a.1), a.2)
