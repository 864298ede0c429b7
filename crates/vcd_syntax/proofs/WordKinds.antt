-- Each word of a dump that was written is of its kind, and without blanks.
use Rattle.std.specs.Char.{is_ascii_digit}
use Rattle.std.specs.Fmt.{decimal, digits, digits_onto, digit_glyph}
use Rattle.std.specs.List.{AllByRecursion, list_all, position, prefix_len}
use Rattle.std.specs.Option.{option_map_or}
use Rattle.std.specs.Prelude.{IsTrue, nat_lt, nat_le, ◌==◌, if◌then◌else◌, slice_index}
use Rattle.std.proofs.Common.{◌≡◌, ℕ, zero, suc, ◌+◌, ◌-◌, ◌*◌, ◌/◌, ◌%◌, ◌^◌, ◌<◌, ◌≤◌, Bool, true, false, not, ◌&&◌, cond, Option, Some, None, List, [], ◌∷◌, ◌++◌, codes, length, take, drop, refl, ap, ◌∙◌, subst, arith, length-append}
use Rattle.std.proofs.lemmas.Bool.{and_parts}
use Rattle.std.proofs.lemmas.Bool.Decides.{nat_tests}
use Rattle.std.proofs.lemmas.List.Folds.{list_all-append}
use Rattle.std.proofs.Math.Seq.{take-append-add}
use Rattle.plain_lemmas.proofs.Bools.{and-both_true}
use Rattle.rb_base.specs.declared.ports.Pin.{Pin}
use Rattle.rb_grammar.specs.Separators.{is_blank}
use Rattle.v_design.specs.Lexemes.{is_name, is_name_start, is_name_byte, among, reserved_words}
use Rattle.v_design.specs.Fits.{FitsPins, AllFit}
use Rattle.vcd_syntax.specs.declared.kind.Kind.{Kind}
use Rattle.vcd_syntax.specs.declared.kind.Kind.TheVariants as kind
use Rattle.vcd_syntax.specs.Words.{is, is_number, decimal_value, is_span, is_colon, is_code, is_code_byte, is_identifier, is_bit}
use Rattle.vcd_syntax.specs.Dump.{code, binary, end}
use Rattle.vcd_syntax.proofs.Lines.{is_word}
use Rattle.vcd_syntax.proofs.Codes.{code_is}
use Rattle.vcd_syntax.proofs.Numerals.{binary_bits, decimal_value_of, decimal_digits}
use Rattle.vcd_syntax.proofs.Marking.{Spoken, var_spoken, vars_spoken, head_spoken, change_spoken, all_spoken, changed_spoken}
use Rattle.vcd_syntax.proofs.Rows.{time_word, edge_spoken, rows_spoken}

abbrev pub IsGood : Kind × List ℕ → Type 0
IsGood x = (is x.0 x.1 ≡ true) × (is_word x.1 ≡ true)

abbrev pub AreGood : Spoken → Type 0
AreGood [] = Unit {0}
AreGood (x ∷ xs) = IsGood x × AreGood xs

pub good_append : (xs ys : Spoken) → AreGood xs → AreGood ys → AreGood (xs ++ ys)
good_append [] ys a b = b
good_append (x ∷ xs) ys a b = (a.0, good_append xs ys a.1 b)

-- Words without blanks.

weaker : (p q : ℕ → Bool) → ((b : ℕ) → p b ≡ true → q b ≡ true) → (w : List ℕ) → list_all p w ≡ true → list_all q w ≡ true
weaker p q f [] h = refl
weaker p q f (b ∷ w) h = let r = and_parts (p b) (list_all p w) h in let head = f b r.0 in let tail = weaker p q f w r.1 in rw (head, tail) refl

abbrev solid : ℕ → Bool
solid b = not (is_blank b)

word_from : (b : ℕ) (w : List ℕ) → solid b ≡ true → list_all solid w ≡ true → is_word (b ∷ w) ≡ true
word_from b w h k = rw (h, k) refl

digit_solid : (b : ℕ) → is_ascii_digit b ≡ true → solid b ≡ true
digit_solid b h = grind (arith, nat_tests)

code_solid : (b : ℕ) → is_code_byte b ≡ true → solid b ≡ true
code_solid b h = grind (arith, nat_tests)

bit_solid : (b : ℕ) → is_bit b ≡ true → solid b ≡ true
bit_solid b h = grind (arith, nat_tests)

start_solid : (b : ℕ) → is_name_start b ≡ true → solid b ≡ true
start_solid b h = grind (arith, nat_tests)

name_solid : (b : ℕ) → is_name_byte b ≡ true → solid b ≡ true
name_solid b h = grind (arith, nat_tests)

code_word : (w : List ℕ) → is_code w ≡ true → is_word w ≡ true
code_word [] h = cc
code_word (b ∷ w) h =
    let r = and_parts (nat_lt 0 (length (b ∷ w))) (list_all is_code_byte (b ∷ w)) h in
    weaker is_code_byte solid code_solid (b ∷ w) r.1

code_bytes : (w : List ℕ) → is_code w ≡ true → list_all solid w ≡ true
code_bytes w h = weaker is_code_byte solid code_solid w (and_parts (nat_lt 0 (length w)) (list_all is_code_byte w) h).1

name_word : (w : List ℕ) → is_identifier w ≡ true → is_word w ≡ true
name_word [] h = cc
name_word (b ∷ w) h =
    let r = and_parts (is_name (b ∷ w)) (not (among reserved_words (b ∷ w))) h in
    let q = and_parts (is_name_start b) (list_all is_name_byte w) r.0 in
    word_from b w (start_solid b q.0) (weaker is_name_byte solid name_solid w q.1)

-- Numbers.

no_less : (base k n : ℕ) (acc : List ℕ) → length acc ≤ length (digits_onto k base false n acc)
no_less base zero n acc = omega arith
no_less base (suc k) n acc = at (n / base == 0) (no_less base k (n / base) (digit_glyph false (n % base) ∷ acc))
  where
    at : (b : Bool) → length (digit_glyph false (n % base) ∷ acc) ≤ length (digits_onto k base false (n / base) (digit_glyph false (n % base) ∷ acc))
        → length acc ≤ length (if b then digit_glyph false (n % base) ∷ acc else digits_onto k base false (n / base) (digit_glyph false (n % base) ∷ acc))
    at true h = omega arith
    at false h = omega (arith, h)

some_digits : (base k n : ℕ) → 0 < length (digits_onto (suc k) base false n [])
some_digits base k n = at (n / base == 0) (no_less base k (n / base) (digit_glyph false (n % base) ∷ []))
  where
    at : (b : Bool) → 1 ≤ length (digits_onto k base false (n / base) (digit_glyph false (n % base) ∷ []))
        → 0 < length (if b then digit_glyph false (n % base) ∷ [] else digits_onto k base false (n / base) (digit_glyph false (n % base) ∷ []))
    at true h = omega arith
    at false h = omega (arith, h)

pub decimal_some : (n : ℕ) → 0 < length (decimal n)
unfolding digits
decimal_some n = some_digits 10 63 n

pub binary_some : (n : ℕ) → 0 < length (binary n)
unfolding binary
binary_some n = some_digits 2 127 n

over : (w : List ℕ) → 0 < length w → nat_lt 0 (length w) ≡ true
over w h = grind (arith, nat_tests)

number : (w : List ℕ) → 0 < length w → list_all is_ascii_digit w ≡ true → is_number w ≡ true
number w h k = let o = over w h in rw (o, k) refl

decimal_number : (n : ℕ) → is_number (decimal n) ≡ true
decimal_number n = number (decimal n) (decimal_some n) (decimal_digits n)

digits_word : (w : List ℕ) → 0 < length w → list_all is_ascii_digit w ≡ true → is_word w ≡ true
digits_word [] l h = absurd (omega arith)
digits_word (b ∷ w) l h = weaker is_ascii_digit solid digit_solid (b ∷ w) h

-- Ranges: the digits, a colon, 0 and a bracket.

take_front : (v w : List ℕ) → take (length v) (v ++ w) ≡ v
take_front [] w = refl
take_front (b ∷ v) w = ap (λ z. b ∷ z) (take_front v w)

drop_front : (v w : List ℕ) (n : ℕ) → drop (length v + n) (v ++ w) ≡ drop n w
drop_front [] w n = ap (λ k. drop k w) (let e : 0 + n ≡ n = omega arith in e)
drop_front (b ∷ v) w n = ap (λ k. drop k (b ∷ (v ++ w))) (let e : suc (length v) + n ≡ suc (length v + n) = omega arith in e) ∙ drop_front v w n

at_behind : (v w : List ℕ) (n : ℕ) → slice_index (v ++ w) (length v + n) ≡ slice_index w n
at_behind [] w n = ap (slice_index w) (let e : 0 + n ≡ n = omega arith in e)
at_behind (b ∷ v) w n = ap (slice_index (b ∷ (v ++ w))) (let e : suc (length v) + n ≡ suc (length v + n) = omega arith in e) ∙ at_behind v w n

no_colon : (b : ℕ) → is_ascii_digit b ≡ true → is_colon b ≡ false
no_colon b h = grind (arith, nat_tests)

colon_far : (v w : List ℕ) → list_all is_ascii_digit v ≡ true → prefix_len (λ b. not (is_colon b)) (v ++ 58 ∷ w) ≡ length v
colon_far [] w h = refl
colon_far (b ∷ v) w h =
    let r = and_parts (is_ascii_digit b) (list_all is_ascii_digit v) h in
    ap (λ z. cond (not z) (1 + prefix_len (λ b. not (is_colon b)) (v ++ 58 ∷ w)) 0) (no_colon b r.0) ∙ ap (λ z. 1 + z) (colon_far v w r.1) ∙ (let e : 1 + length v ≡ suc (length v) = omega arith in e)

colon_at : (v w : List ℕ) → list_all is_ascii_digit v ≡ true → position is_colon (v ++ 58 ∷ w) ≡ Some (length v)
colon_at v w h =
    let e = colon_far v w h in
    let l : nat_lt (length v) (length (v ++ 58 ∷ w)) ≡ true = (let s = length-append v (58 ∷ w) in grind (arith, nat_tests)) in
    ap (λ n. cond (nat_lt n (length (v ++ 58 ∷ w))) (Some n) None) e ∙ ap (λ b. cond b (Some (length v)) None) l

span : (v : List ℕ) → is_number v ≡ true → list_all is_ascii_digit v ≡ true → is_span (v ++ codes ":0") ≡ true
span v h k =
    let text = v ++ codes ":0" in
    let at : position is_colon text ≡ Some (length v) = colon_at v (codes "0") k in
    let front : is_number (take (length v) text) ≡ true = ap is_number (take_front v (codes ":0")) ∙ h in
    let back : is_number (drop (length v + 1) text) ≡ true = ap is_number (drop_front v (codes ":0") 1) in
    ap (λ o. option_map_or (λ i. is_number (take i text) && is_number (drop (i + 1) text)) o (is_number text)) at ∙ (rw (front, back) refl)

three : (a b c : Bool) → a ≡ true → b ≡ true → c ≡ true → (a && (true && (b && c))) ≡ true
three a b c p q r = rw (p, q, r)

range_of : (d : List ℕ) → is_number d ≡ true → list_all is_ascii_digit d ≡ true → IsGood (kind.Range, 91 ∷ (d ++ codes ":0]"))
range_of d h k =
    let rest = d ++ codes ":0]" in
    let size : length (91 ∷ rest) ≡ length d + 4 = (let s = length-append d (codes ":0]") in omega (arith, s)) in
    let long : nat_le 2 (length (91 ∷ rest)) ≡ true = grind (arith, nat_tests) in
    let behind : length (91 ∷ rest) - 1 ≡ suc (length d + 2) = omega (arith, size) in
    let last : (slice_index (91 ∷ rest) (length (91 ∷ rest) - 1) == 93) ≡ true = ap (λ i. slice_index (91 ∷ rest) i == 93) behind ∙ ap (λ b. b == 93) (at_behind d (codes ":0]") 2) in
    let less : length (91 ∷ rest) - 2 ≡ length d + 2 = omega (arith, size) in
    let inner : take (length (91 ∷ rest) - 2) rest ≡ d ++ codes ":0" = ap (λ i. take i rest) less ∙ take-append-add d (codes ":0]") 2 in (
      three (nat_le 2 (length (91 ∷ rest))) (slice_index (91 ∷ rest) (length (91 ∷ rest) - 1) == 93) (is_span (take (length (91 ∷ rest) - 2) rest)) long last (ap is_span inner ∙ span d h k),
      word_from 91 rest refl (list_all-append solid d (codes ":0]") ∙ and-both_true (list_all solid d) true (weaker is_ascii_digit solid digit_solid d k) refl),
    )

-- The words, kind by kind.

scalar_good : (n x : ℕ) → x < 2 → IsGood (kind.Scalar, (48 + x) ∷ code n)
scalar_good n x l =
    let bit : is_bit (48 + x) ≡ true = grind (arith, nat_tests) in
    (and-both_true (is_bit (48 + x)) (is_code (code n)) bit (code_is n), word_from (48 + x) (code n) (bit_solid (48 + x) bit) (code_bytes (code n) (code_is n)))

bits_good : (x : ℕ) → IsGood (kind.Bits, codes "b" ++ binary x)
bits_good x = (and-both_true (nat_lt 0 (length (binary x))) (list_all is_bit (binary x)) (over (binary x) (binary_some x)) (binary_bits x), word_from 98 (binary x) refl (weaker is_bit solid bit_solid (binary x) (binary_bits x)))

code_good : (n : ℕ) → IsGood (kind.Code, code n)
code_good n = (code_is n, code_word (code n) (code_is n))

taker_good : (n : ℕ) → IsGood (kind.Taker, code n)
taker_good n = (code_is n, code_word (code n) (code_is n))

time_good : (at : ℕ) → IsGood (kind.Time, time_word at)
time_good at = (decimal_number (10 * at), word_from 35 (decimal (10 * at)) refl (weaker is_ascii_digit solid digit_solid (decimal (10 * at)) (decimal_digits (10 * at))))

width_good : (w : ℕ) → 1 ≤ w → w ≤ 128 → IsGood (kind.Width, decimal w)
width_good w a b =
    let v : decimal_value (decimal w) ≡ w = decimal_value_of w (omega (arith, b)) in
    let low : nat_le 1 (decimal_value (decimal w)) ≡ true = ap (nat_le 1) v ∙ (let h : nat_le 1 w ≡ true = grind (arith, nat_tests) in h) in
    let high : nat_le (decimal_value (decimal w)) 128 ≡ true = ap (λ z. nat_le z 128) v ∙ (let h : nat_le w 128 ≡ true = grind (arith, nat_tests) in h) in (
      and-both_true (is_number (decimal w)) (nat_le 1 (decimal_value (decimal w)) && nat_le (decimal_value (decimal w)) 128) (decimal_number w) (and-both_true (nat_le 1 (decimal_value (decimal w))) (nat_le (decimal_value (decimal w)) 128) low high),
      digits_word (decimal w) (decimal_some w) (decimal_digits w),
    )

range_good : (n : ℕ) → IsGood (kind.Range, codes "[" ++ (decimal n ++ codes ":0]"))
range_good n = range_of (decimal n) (decimal_number n) (decimal_digits n)

-- pins that a dump can declare
abbrev pub AreNamed : List Pin → Type 0
AreNamed ps = AllByRecursion (λ p. IsTrue (is_identifier p.name)) ps

abbrev pub AreWide : List Pin → Type 0
AreWide ps = AllByRecursion (λ p. (1 ≤ p.width) × (p.width ≤ 128)) ps

var_good : (k : ℕ) (p : Pin) → is_identifier p.name ≡ true → 1 ≤ p.width → p.width ≤ 128 → AreGood (var_spoken k p)
var_good k p n a b = at (nat_lt 1 p.width)
  where
    at : (c : Bool) → AreGood ((kind.Var, codes "$var") ∷ (kind.NetKind, codes "wire") ∷ (kind.Width, decimal p.width) ∷ (kind.Code, code k) ∷ (kind.Name, p.name)
        ∷ ((if c then (kind.Range, codes "[" ++ (decimal (p.width - 1) ++ codes ":0]")) ∷ [] else []) ++ (kind.End, end) ∷ []))
    at true = ((refl, refl), ((refl, refl), (width_good p.width a b, (code_good k, ((n, name_word p.name n), (range_good (p.width - 1), ((refl, refl), tt)))))))
    at false = ((refl, refl), ((refl, refl), (width_good p.width a b, (code_good k, ((n, name_word p.name n), ((refl, refl), tt))))))

vars_good : (k : ℕ) (ps : List Pin) → AreNamed ps → AreWide ps → AreGood (vars_spoken k ps)
vars_good k [] n w = tt
vars_good k (p ∷ ps) n w = good_append (var_spoken k p) (vars_spoken (k + 1) ps) (var_good k p n.0 w.0.0 w.0.1) (vars_good (k + 1) ps n.1 w.1)

pub head_good : (name : List ℕ) (ps : List Pin) → is_identifier name ≡ true → AreNamed ps → AreWide ps → AreGood (head_spoken name ps)
head_good name ps h n w = (
  (refl, refl),
  (
    (refl, refl),
    (
      (refl, refl),
      (
        (refl, refl),
        (
          (refl, refl),
          (
            (h, name_word name h),
            (
              (refl, refl),
              good_append (vars_spoken 0 ps) ((kind.Upscope, codes "$upscope") ∷ (kind.End, end) ∷ (kind.EndDefinitions, codes "$enddefinitions") ∷ (kind.End, end) ∷ []) (vars_good 0 ps n w)
                  ((refl, refl), ((refl, refl), ((refl, refl), ((refl, refl), tt)))),
            ),
          ),
        ),
      ),
    ),
  ),
)

change_good : (n w x : ℕ) → x < 2 ^ w → AreGood (change_spoken n w x)
change_good n w x l = at (w == 1) refl
  where
    at : (b : Bool) → (w == 1) ≡ b → AreGood (if b then (kind.Scalar, (48 + x) ∷ code n) ∷ [] else (kind.Bits, codes "b" ++ binary x) ∷ (kind.Taker, code n) ∷ [])
    at true e =
        let one : w ≡ 1 = grind (arith, nat_tests) in
        (scalar_good n x (subst (λ z. x < 2 ^ z) one l), tt)
    at false e = (bits_good x, (taker_good n, tt))

all_good : (k : ℕ) (ps : List Pin) (xs : List ℕ) → FitsPins ps xs → AreGood (all_spoken k ps xs)
all_good k [] xs f = tt
all_good k (p ∷ ps) [] f = tt
all_good k (p ∷ ps) (x ∷ xs) f = good_append (change_spoken k p.width x) (all_spoken (k + 1) ps xs) (change_good k p.width x f.0) (all_good (k + 1) ps xs f.1)

changed_good : (k : ℕ) (ps : List Pin) (xs ys : List ℕ) → FitsPins ps ys → AreGood (changed_spoken k ps xs ys)
changed_good k [] xs ys f = tt
changed_good k (p ∷ ps) [] ys f = tt
changed_good k (p ∷ ps) (x ∷ xs) [] f = tt
changed_good k (p ∷ ps) (x ∷ xs) (y ∷ ys) f = at (x == y) (changed_good (k + 1) ps xs ys f.1)
  where
    at : (b : Bool) → AreGood (changed_spoken (k + 1) ps xs ys) → AreGood ((if b then [] else change_spoken k p.width y) ++ changed_spoken (k + 1) ps xs ys)
    at true ih = ih
    at false ih = good_append (change_spoken k p.width y) (changed_spoken (k + 1) ps xs ys) (change_good k p.width y f.0) ih

edge_good : (at : ℕ) (ps : List Pin) (before : Option (List ℕ)) (now : List ℕ) → FitsPins ps now → AreGood (edge_spoken at ps before now)
edge_good at ps None now f = (time_good at, ((refl, refl), good_append (all_spoken 0 ps now) ((kind.End, end) ∷ []) (all_good 0 ps now f) ((refl, refl), tt)))
edge_good at ps (Some before) now f = (time_good at, changed_good 0 ps before now f)

pub rows_good : (at : ℕ) (ps : List Pin) (before : Option (List ℕ)) (rows : List (List ℕ)) → AllFit ps rows → AreGood (rows_spoken at ps before rows)
rows_good at ps before [] f = tt
rows_good at ps before (row ∷ rows) f = good_append (edge_spoken at ps before row) (rows_spoken (at + 1) ps (Some row) rows) (edge_good at ps before row f.0) (rows_good (at + 1) ps (Some row) rows f.1)
