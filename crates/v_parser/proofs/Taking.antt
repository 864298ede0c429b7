-- What is taken.
use Rattle.std.specs.Char.{digit_value}
use Rattle.std.specs.Str.Parse.{digits_value}
use Rattle.std.specs.Cmp.Lexicographic.{bytes_decides}
use Rattle.std.proofs.Common.{◌≡◌, ℕ, ◌+◌, ◌*◌, ◌<◌, ◌≤◌, min, true, nat_le, List, ◌∷◌, length, take, get_or, refl, ap, sym, ◌∙◌, arith}
use Rattle.std.proofs.lemmas.Bool.Decides.{nat_tests}
use Rattle.std.proofs.lemmas.Int.Digits.{digits_value_more}
use Rattle.rb_grammar.specs.Spelling.{At}
use Rattle.rb_grammar.specs.Readings.{Takes}
use Rattle.v_design.specs.Lexemes.{Token, Word, Name, Number, Const}
use Rattle.v_syntax.specs.Grammar.{Quoted, High, Zero, Constant, is, grammar}
use Rattle.v_syntax.specs.Tokens.{text_of, numbers_of, constant_in, token_in, spotted}
use Rattle.v_syntax.specs.declared.spot.VClass.TheVariants as classes
use Rattle.v_syntax.specs.declared.spot.VSpot.{VSpot}
use Rattle.v_parser.specs.Reading.{word_at, TakesOne}

pub capped_more : (v m w d i : ℕ) (text : List ℕ) → i < length text → v ≡ min (digits_value 10 (take i text)) 255 → m ≡ min (v * 10) 255 → d ≡ digit_value (get_or text i 0) → w ≡ min (m + d) 255
    → w ≡ min (digits_value 10 (take (i + 1) text)) 255
capped_more v m w d i text l e f g h = omega (arith, e, f, g, h, digits_value_more 10 text i l)

pub quoted_is : (text : List ℕ) (t : Token) → is (Quoted text) t ≡ true → t ≡ Word text
quoted_is text (Word w) h = ap Word ((bytes_decides w text).0 h)
quoted_is text (Name n) h = cc
quoted_is text (Number n) h = cc
quoted_is text (Const w v) h = cc

pub quoted_taken : (text : List ℕ) (t : At Token) (ts us : List (At Token)) → ts ≡ t ∷ us → is (Quoted text) t.token ≡ true → Takes grammar (Quoted text) ts (word_at text t.place) us
quoted_taken text t ts us e h = record {
  list = e ∙ ap (λ w. record { token = w; place = t.place } ∷ us) (quoted_is text t.token h);
  token = (bytes_decides text text).1 refl;
}

pub high_taken : (n v place : ℕ) (ts us : List (At Token)) → ts ≡ record { token = Number n; place = place } ∷ us → v ≡ min n 255 → (v ≡ 0 → ⊥) → v ≤ 127 → TakesOne High (Number v) ts us
high_taken n v place ts us e f z h =
    let same : n ≡ v = omega (arith, f, z, h) in
    let low : nat_le 1 v ≡ true = grind (arith, nat_tests) in
    let high : nat_le v 127 ≡ true = grind (arith, nat_tests) in
    (place, record { list = e ∙ ap (λ m. record { token = Number m; place = place } ∷ us) same; token = rw (low, high) refl })

pub zero_taken : (n v place : ℕ) (ts us : List (At Token)) → ts ≡ record { token = Number n; place = place } ∷ us → v ≡ min n 255 → v ≡ 0 → TakesOne Zero (Number 0) ts us
zero_taken n v place ts us e f z =
    let same : n ≡ 0 = omega (arith, f, z) in
    (place, record { list = e ∙ ap (λ m. record { token = Number m; place = place } ∷ us) same; token = refl })

-- A number or a constant at a spot of the text, whose bytes are this word.

number_at : (bytes : List ℕ) (s : VSpot) → s.class ≡ classes.Dec → spotted bytes s ≡ record { token = Number (digits_value 10 (text_of bytes s)); place = s.place.0 }
number_at bytes s e = ap (λ c. record { token = token_in c (text_of bytes s); place = s.place.0 }) e

pub high_here : (bytes word : List ℕ) (s : VSpot) (v : ℕ) (ts us : List (At Token)) → s.class ≡ classes.Dec → word ≡ text_of bytes s → ts ≡ spotted bytes s ∷ us → v ≡ min (digits_value 10 word) 255 → (v ≡ 0 → ⊥) → v ≤ 127 → TakesOne High (Number v) ts us
high_here bytes word s v ts us k w e f z h = high_taken (digits_value 10 (text_of bytes s)) v s.place.0 ts us (e ∙ ap (λ t. t ∷ us) (number_at bytes s k)) (f ∙ ap (λ d. min (digits_value 10 d) 255) w) z h

pub zero_here : (bytes word : List ℕ) (s : VSpot) (v : ℕ) (ts us : List (At Token)) → s.class ≡ classes.Dec → word ≡ text_of bytes s → ts ≡ spotted bytes s ∷ us → v ≡ min (digits_value 10 word) 255 → v ≡ 0 → TakesOne Zero (Number 0) ts us
zero_here bytes word s v ts us k w e f z = zero_taken (digits_value 10 (text_of bytes s)) v s.place.0 ts us (e ∙ ap (λ t. t ∷ us) (number_at bytes s k)) (f ∙ ap (λ d. min (digits_value 10 d) 255) w) z

pub constant_here : (bytes word : List ℕ) (s : VSpot) (k : ℕ × ℕ) (ts us : List (At Token)) → s.class ≡ classes.Const → word ≡ text_of bytes s → ts ≡ spotted bytes s ∷ us → k ≡ numbers_of (constant_in word) → TakesOne Constant (Const k.0 k.1) ts us
constant_here bytes word s k ts us c w e f =
    let numbers : numbers_of (constant_in (text_of bytes s)) ≡ k = ap (λ z. numbers_of (constant_in z)) (sym w) ∙ sym f in
    let same : spotted bytes s ≡ record { token = Const k.0 k.1; place = s.place.0 } =
    ap (λ d. record { token = token_in d (text_of bytes s); place = s.place.0 }) c ∙ ap (λ (p : ℕ × ℕ). record { token = Const p.0 p.1; place = s.place.0 }) numbers in
    (s.place.0, record { list = e ∙ ap (λ t. t ∷ us) same; token = refl })
