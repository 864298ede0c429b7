-- Ports and declarations.
use Rattle.std.proofs.Common.{◌≡◌, ℕ, ◌+◌, ◌-◌, ◌≤◌, Bool, true, false, ◌==◌, nat_le, List, [], ◌∷◌, length, codes, refl, ap, sym, ◌∙◌, arith}
use Rattle.std.proofs.lemmas.Bool.Decides.{nat_tests}
use Rattle.rb_grammar.specs.Spelling.{At}
use Rattle.rb_grammar.specs.Readings.{Takes}
use Rattle.v_design.specs.Lexemes.{Token, Word, Number}
use Rattle.v_design.specs.Tree.{range_tokens, dir_word, decl_word, quoted}
use Rattle.rb_base.specs.declared.ports.Dir.{Dir}
use Rattle.rb_base.specs.declared.place.Place.{Place}
use Rattle.v_syntax.specs.Tokens.{place_at}
use Rattle.v_syntax.specs.Grammar.{Quoted, Identifier, High, Zero, is, grammar}
use Rattle.v_parser.specs.Reading.{Spans, TakesOne, name_at, ReadsRange, ReadsPort, ReadsDecl}
use Rattle.v_parser.proofs.Spanning.{spans_one, spans_some, ◌then_spans◌, spans_as, span_place, taken_place}
use Rattle.v_parser.proofs.Walking.{Tokens}

high_within : (n : ℕ) {ts us : Tokens} → TakesOne High (Number n) ts us → (1 ≤ n) × (n ≤ 127)
high_within n k = let h = k.1.token in (go n h, stop n h)
  where
    go : (n : ℕ) → is High (Number n) ≡ true → 1 ≤ n
    go n h = grind (arith, nat_tests)

    stop : (n : ℕ) → is High (Number n) ≡ true → n ≤ 127
    stop n h = grind (arith, nat_tests)

pub range_read : (n : ℕ) {ts us vs ws xs ys : Tokens} {opener colon closer : At Token} → Takes grammar (Quoted (codes "[")) ts opener us → TakesOne High (Number n) us vs → Takes grammar (Quoted (codes ":")) vs colon ws
    → TakesOne Zero (Number 0) ws xs → Takes grammar (Quoted (codes "]")) xs closer ys → opener.token ≡ quoted "[" → colon.token ≡ quoted ":" → closer.token ≡ quoted "]" → ReadsRange ts ys (n + 1)
range_read n o h c z d eo ec ed =
    let w = high_within n h in
    let low : nat_le 1 (n + 1) ≡ true = grind (arith, nat_tests) in
    let high : nat_le (n + 1) 128 ≡ true = grind (arith, nat_tests) in
    let wide : (n + 1 == 1) ≡ false = grind (arith, nat_tests) in
    let less : n + 1 - 1 ≡ n = omega arith in
    (rw (low, high) refl, rw (wide, less) (spans_as (rw (eo, ec, ed) refl) (spans_one o then_spans spans_some h then_spans spans_one c then_spans spans_some z then_spans spans_one d)))

pub range_none : {ts us : Tokens} → us ≡ ts → ReadsRange ts us 1
range_none e = (refl, record { front = []; list = sym e; are = refl })

-- the place of a name behind a word and a range
name_place : (text name : List ℕ) (width place : ℕ) {ts us vs ws : Tokens} → Spans ts us (Word text ∷ []) → Spans us vs (range_tokens width) → Takes grammar Identifier vs (name_at name place) ws → place ≡ place_at ts (1 + length (range_tokens width))
name_place text name width place {ts = ts} s r k =
    let n = length (range_tokens width) in
    let one : 1 + n ≡ length (Word text ∷ []) + (n + 0) = omega arith in
    sym (ap (place_at ts) one ∙ (span_place s (n + 0) ∙ (span_place r 0 ∙ taken_place k)))

pub port_read : (dir : Dir) (width : ℕ) (place : Place) (name bytes : List ℕ) {ts us vs ws : Tokens} → name ≡ bytes → Spans ts us (Word (dir_word dir) ∷ []) → ReadsRange us vs width → Takes grammar Identifier vs (name_at bytes place.0) ws
    → ReadsPort ts ws (record { dir = dir; name = name; width = width }) place
port_read dir width place name bytes e s r k = rw e record {
  wide = r.0;
  spans = s then_spans r.1 then_spans spans_one k;
  at = name_place (dir_word dir) bytes width place.0 s r.1 k;
}

pub decl_read : (reg : Bool) (width : ℕ) (place : Place) (name bytes : List ℕ) {ts us vs ws xs : Tokens} {end : At Token} → name ≡ bytes → Spans ts us (Word (decl_word reg) ∷ []) → ReadsRange us vs width → Takes grammar Identifier vs (name_at bytes place.0) ws
    → Takes grammar (Quoted (codes ";")) ws end xs → end.token ≡ quoted ";" → ReadsDecl ts xs (record { reg = reg; name = name; width = width }) place
decl_read reg width place name bytes e s r k d f = rw e record {
  wide = r.0;
  spans = s then_spans r.1 then_spans spans_one k then_spans spans_as (ap (λ z. z ∷ []) f) (spans_one d);
  at = name_place (decl_word reg) bytes width place.0 s r.1 k;
}
