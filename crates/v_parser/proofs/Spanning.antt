-- How what stands between two ends of the tokens is put together.
use Rattle.std.proofs.Common.{◌≡◌, ℕ, suc, ◌+◌, List, [], ◌∷◌, ◌++◌, length, refl, ap, sym, ◌∙◌, arith, append_assoc, length-append}
use Rattle.rb_grammar.specs.Spelling.{At, tokens_of}
use Rattle.rb_grammar.specs.Readings.{Takes}
use Rattle.v_design.specs.Lexemes.{Token}
use Rattle.v_syntax.specs.Tokens.{place_at}
use Rattle.v_syntax.specs.Grammar.{Terminal, grammar}
use Rattle.v_parser.specs.Reading.{Spans, TakesOne}

tokens_append : (xs ys : List (At Token)) → tokens_of (xs ++ ys) ≡ tokens_of xs ++ tokens_of ys
tokens_append [] ys = refl
tokens_append (x ∷ xs) ys = ap (λ z. x.token ∷ z) (tokens_append xs ys)

-- nothing
pub spans_none : {ts : List (At Token)} → Spans ts ts []
spans_none = record { front = []; list = refl; are = refl }

-- nothing, between one end and itself
pub spans_same : {ts us : List (At Token)} → us ≡ ts → Spans ts us []
spans_same e = record { front = []; list = sym e; are = refl }

-- a token
pub spans_one : {a : Terminal} {ts us : List (At Token)} {t : At Token} → Takes grammar a ts t us → Spans ts us (t.token ∷ [])
spans_one {t = t} k = record { front = t ∷ []; list = k.list; are = refl }

pub spans_some : {a : Terminal} {token : Token} {ts us : List (At Token)} → TakesOne a token ts us → Spans ts us (token ∷ [])
spans_some k = spans_one k.1

infixr 20 ◌then_spans◌
-- one after another
pub ◌then_spans◌ : {ts us vs : List (At Token)} {xs ys : List Token} → Spans ts us xs → Spans us vs ys → Spans ts vs (xs ++ ys)
◌then_spans◌ {vs = vs} {xs = xs} p q = record {
  front = p.front ++ q.front;
  list = p.list ∙ (ap (λ z. p.front ++ z) q.list ∙ sym (append_assoc p.front q.front vs));
  are = tokens_append p.front q.front ∙ (ap (λ z. z ++ tokens_of q.front) p.are ∙ ap (λ z. xs ++ z) q.are);
}

-- the same tokens, written otherwise
pub spans_as : {ts us : List (At Token)} {xs ys : List Token} → xs ≡ ys → Spans ts us xs → Spans ts us ys
spans_as e p = record { front = p.front; list = p.list; are = p.are ∙ e }

-- from an equal end
pub spans_from : {ts us vs : List (At Token)} {xs : List Token} → us ≡ ts → Spans us vs xs → Spans ts vs xs
spans_from e p = record { front = p.front; list = sym e ∙ p.list; are = p.are }

-- Places.

pub place_behind : (xs ys : List (At Token)) (i : ℕ) → place_at (xs ++ ys) (length xs + i) ≡ place_at ys i
place_behind [] ys i = ap (place_at ys) (omega arith)
place_behind (x ∷ xs) ys i =
    let more : suc (length xs) + i ≡ suc (length xs + i) = omega arith in
    ap (place_at (x ∷ (xs ++ ys))) more ∙ place_behind xs ys i

length_tokens : (xs : List (At Token)) → length (tokens_of xs) ≡ length xs
length_tokens [] = refl
length_tokens (x ∷ xs) = ap suc (length_tokens xs)

pub span_length : {ts us : List (At Token)} {xs : List Token} → Spans ts us xs → length ts ≡ length xs + length us
span_length {us = us} p = ap length p.list ∙ (length-append p.front us ∙ ap (λ n. n + length us) (sym (length_tokens p.front) ∙ ap length p.are))

-- the place of a token behind a span
pub span_place : {ts us : List (At Token)} {xs : List Token} → Spans ts us xs → (i : ℕ) → place_at ts (length xs + i) ≡ place_at us i
span_place {ts = ts} {us = us} p i =
    let len = sym (ap length p.are) ∙ length_tokens p.front in
    ap (λ n. place_at ts (n + i)) len ∙ (ap (λ z. place_at z (length p.front + i)) p.list ∙ place_behind p.front us i)

pub taken_place : {a : Terminal} {ts us : List (At Token)} {t : At Token} → Takes grammar a ts t us → place_at ts 0 ≡ t.place
taken_place k = ap (λ z. place_at z 0) k.list

-- a token that is this one
pub spans_is : {a : Terminal} {ts us : List (At Token)} {t : At Token} {token : Token} → Takes grammar a ts t us → t.token ≡ token → Spans ts us (token ∷ [])
spans_is k e = spans_as (ap (λ z. z ∷ []) e) (spans_one k)

-- to an equal end
pub spans_to : {ts us vs : List (At Token)} {xs : List Token} → vs ≡ us → Spans ts us xs → Spans ts vs xs
spans_to e p = record { front = p.front; list = p.list ∙ ap (λ z. p.front ++ z) (sym e); are = p.are }
