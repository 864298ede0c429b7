-- How tokens are printed, each in one word.
use Rattle.std.specs.Char.{is_ascii_digit, digit_value}
use Rattle.std.specs.Fmt.{digits, decimal}
use Rattle.std.specs.List.{list_all}
use Rattle.std.specs.Str.Parse.{digits_value, IsNumeral, AllDigits}
use Rattle.std.proofs.Common.{◌≡◌, inl, inr, None, ℕ, zero, suc, ◌<◌, ◌≤◌, ◌^◌, ◌==◌, Bool, true, false, not, ◌&&◌, ◌||◌, cond, if◌then◌else◌, Some, List, [], ◌∷◌, ◌++◌, codes, length, refl, sym, ap, ◌∙◌, arith, nat_le, nat_lt, get_or}
use Rattle.std.proofs.lemmas.Bool.{or_cases, or_parts, both_ways, not-true, ltb-true, leb-true, lt-ltb, false_from_ne_true}
use Rattle.std.proofs.lemmas.Bool.Decides.{nat_tests}
use Rattle.std.proofs.lemmas.Fmt.{digits_is_IsNumeral, decimal_is_IsNumeral, first_decimal, decimal_digit}
use Rattle.std.proofs.lemmas.Nat.{pow_below}
use Rattle.rb_grammar.specs.Separators.{is_blank, begins_separator}
use Rattle.rb_grammar.specs.Lexemes.{has_form, meaning_of}
use Rattle.rb_grammar.specs.Spelling.{IsLongest}
use Rattle.rb_grammar.specs.Printing.{Printer}
use Rattle.v_design.specs.Lexemes.{Token, Word, Name, Number, Const, among, is_name_start, is_name_byte, is_name, reserved_words, marks, is_decimal, is_quote, is_numeral, constant, verilog}
use Rattle.v_design.proofs.Tests.{and-left, and-right, among-passes}
use Rattle.v_design.proofs.Spelling.{begins_by, begins_more, is_mark_byte, mark_begins, name_begins, decimal_begins, name_form, mark_form, number_form, name_meaning, mark_meaning, decimal_meaning, constant_form, constant_meaning, name_ends, mark_ends, decimal_ends, constant_ends, is_bare, bare_begins, longest_before}

-- Numbers in digits.

all_digits_bytes : (ds : List ℕ) → AllDigits 10 ds → list_all is_ascii_digit ds ≡ true
all_digits_bytes [] h = refl
all_digits_bytes (c ∷ cs) h = rw (digit_byte c h.0) (all_digits_bytes cs h.1)
  where
    digit_byte : (c : ℕ) → digit_value c < 10 → is_ascii_digit c ≡ true
    digit_byte c h = grind (arith, nat_tests)

decimal_from : (ds : List ℕ) → list_all is_ascii_digit ds ≡ true → 0 < length ds → 48 < get_or ds 0 0 → is_decimal ds ≡ true
decimal_from [] h l f = absurd (omega arith)
decimal_from (b ∷ []) h l f = and-left (is_ascii_digit b) true h
decimal_from (b ∷ c ∷ bs) h l f =
    let p : is_ascii_digit b ≡ true = and-left (is_ascii_digit b) (is_ascii_digit c && list_all is_ascii_digit bs) h in
    let q : (is_ascii_digit c && list_all is_ascii_digit bs) ≡ true = and-right (is_ascii_digit b) (is_ascii_digit c && list_all is_ascii_digit bs) h in
    let q1 : is_ascii_digit c ≡ true = and-left (is_ascii_digit c) (list_all is_ascii_digit bs) q in
    let q2 : list_all is_ascii_digit bs ≡ true = and-right (is_ascii_digit c) (list_all is_ascii_digit bs) q in
    let r : nat_lt 48 b ≡ true = lt-ltb 48 b f in
    rw (p, r, q1, q2)

decimal_is_decimal : (n : ℕ) → n < 2 ^ 64 → is_decimal (decimal n) ≡ true
decimal_is_decimal zero h = rw (decimal_digit 0 (omega arith))
decimal_is_decimal (suc n) h =
    let k = decimal_is_IsNumeral (suc n) h in
    decimal_from (decimal (suc n)) (all_digits_bytes (decimal (suc n)) k.0.1) k.0.0 (first_decimal (suc n) (omega arith) h)

all_hexadecimal : (ds : List ℕ) → AllDigits 16 ds → list_all (λ b. nat_lt (digit_value b) 16) ds ≡ true
all_hexadecimal [] h = refl
all_hexadecimal (c ∷ cs) h = rw (lt-ltb (digit_value c) 16 h.0) (all_hexadecimal cs h.1)

hexadecimal : (ds : List ℕ) → IsNumeral 16 ds → is_numeral 16 ds ≡ true
hexadecimal [] h = absurd (omega (arith, h.0))
hexadecimal (d ∷ ds) h = all_hexadecimal (d ∷ ds) h.1

-- The printer.

-- the one spelling of a token: numbers in decimal digits, constants in hexadecimal ones
abbrev pub word_of : Token → List ℕ
word_of (Word w) = w
word_of (Name n) = n
word_of (Number n) = decimal n
word_of (Const w v) = decimal w ++ (codes "'h" ++ digits 16 false v)

-- the token has that spelling
abbrev pub has_word : Token → Bool
has_word (Word w) = among reserved_words w || among marks w
has_word (Name n) = is_name n && not (among reserved_words n)
has_word (Number n) = nat_lt n (2 ^ 64)
has_word (Const w v) = nat_le 1 w && nat_le w 128 && nat_lt v (2 ^ w)

abbrev pub is_mark : Token → Bool
is_mark (Word w) = among marks w
is_mark (Name n) = false
is_mark (Number n) = false
is_mark (Const w v) = false

abbrev pub begins_equal : Token → Bool
begins_equal (Word w) = begins_by (λ b. b == 61) w
begins_equal (Name n) = false
begins_equal (Number n) = false
begins_equal (Const w v) = false

-- with no blank between them a mark stands behind any token that is none, and behind a mark all but what begins with =
abbrev pub may_touch : Token → Token → Bool
may_touch t u = if is_mark t then not (begins_equal u) else is_mark u

record ConstFits (w v : ℕ) : Type 0 where
  some : 1 ≤ w
  most : w ≤ 128
  value : v < 2 ^ w

const_fits : (w v : ℕ) → (nat_le 1 w && nat_le w 128 && nat_lt v (2 ^ w)) ≡ true → ConstFits w v
const_fits w v h =
    let p : (nat_le 1 w && nat_le w 128) ≡ true = and-left (nat_le 1 w && nat_le w 128) (nat_lt v (2 ^ w)) h in record {
      some = leb-true 1 w (and-left (nat_le 1 w) (nat_le w 128) p);
      most = leb-true w 128 (and-right (nat_le 1 w) (nat_le w 128) p);
      value = ltb-true v (2 ^ w) (and-right (nat_le 1 w && nat_le w 128) (nat_lt v (2 ^ w)) h);
    }

size_decimal : (w v : ℕ) → ConstFits w v → is_decimal (decimal w) ≡ true
size_decimal w v f = decimal_is_decimal w (omega arith)

hex_numeral : (w v : ℕ) → ConstFits w v → IsNumeral 16 (digits 16 false v) × (digits_value 16 (digits 16 false v) ≡ v)
hex_numeral w v f = digits_is_IsNumeral 16 false (omega arith) (omega arith) v (wide f.most f.value)
  where
    wide : w ≤ 128 → v < 2 ^ w → v < 16 ^ 64
    wide h l = let p : 2 ^ w < 2 ^ 129 = pow_below w 129 (omega arith) in omega arith

reserved_name : (w : List ℕ) → among reserved_words w ≡ true → is_name w ≡ true
reserved_name w h = among-passes is_name reserved_words w refl h

name_of : (n : List ℕ) → (is_name n && not (among reserved_words n)) ≡ true → (is_name n ≡ true) × (among reserved_words n ≡ false)
name_of n h = (and-left (is_name n) (not (among reserved_words n)) h, not-true (among reserved_words n) (and-right (is_name n) (not (among reserved_words n)) h))

-- Each word has the form of a lexeme.
pub form : (t : Token) → has_word t ≡ true → has_form verilog (word_of t) ≡ true
form (Word w) h = elim (or_cases (among reserved_words w) (among marks w) h) [
  | inl r ↦ name_form w (name_begins w (reserved_name w r)) ∙ reserved_name w r
  | inr m ↦ mark_form w (mark_begins w m) ∙ m
]
form (Name n) h = let k = name_of n h in name_form n (name_begins n k.0) ∙ k.0
form (Number n) h = let k = decimal_is_decimal n (ltb-true n (2 ^ 64) h) in number_form (decimal n) (decimal_begins (decimal n) k) ∙ rw k refl
form (Const w v) h = let f = const_fits w v h in constant_form (decimal w) (104 ∷ digits 16 false v) (size_decimal w v f) ∙ hexadecimal (digits 16 false v) (hex_numeral w v f).0

constant_is : (width w value v : ℕ) → width ≡ w → value ≡ v → (nat_le 1 w && nat_le w 128 && nat_lt v (2 ^ w)) ≡ true → constant width value ≡ Some (Const w v)
constant_is width w value v e f h = ap (λ z. constant z value) e ∙ (ap (constant w) f ∙ ap (λ (b : Bool). if b then Some (Const w v) else None) h)

-- Each word means its token.
pub means : (t : Token) → has_word t ≡ true → meaning_of verilog (word_of t) ≡ Some t
means (Word w) h = elim (or_cases (among reserved_words w) (among marks w) h) [
  | inl r ↦ name_meaning w (reserved_name w r) ∙ ap (λ (b : Bool). Some (cond b (Word w) (Name w))) r
  | inr m ↦ mark_meaning w m
]
means (Name n) h = let k = name_of n h in name_meaning n k.0 ∙ ap (λ (b : Bool). Some (cond b (Word n) (Name n))) k.1
means (Number n) h = let l = ltb-true n (2 ^ 64) h in decimal_meaning (decimal n) (decimal_is_decimal n l) ∙ ap (λ z. Some (Number z)) (decimal_is_IsNumeral n l).1
means (Const w v) h =
    let f = const_fits w v h in
    let hex = hex_numeral w v f in
    constant_meaning (decimal w) (104 ∷ digits 16 false v) (size_decimal w v f) (hexadecimal (digits 16 false v) hex.0)
    ∙ constant_is (digits_value 10 (decimal w)) w (digits_value 16 (digits 16 false v)) v (decimal_is_IsNumeral w (omega arith)).1 hex.1 h

by_byte : (p q : ℕ → Bool) (w : List ℕ) → ((b : ℕ) → p b ≡ true → q b ≡ true) → begins_by p w ≡ true → begins_by q w ≡ true
by_byte p q [] h k = cc
by_byte p q (b ∷ bs) h k = h b k

-- the first byte of a word that is no mark passes what letters, _ and digits do
unmarked : (p : ℕ → Bool) → ((b : ℕ) → is_name_start b ≡ true → p b ≡ true) → ((b : ℕ) → is_ascii_digit b ≡ true → p b ≡ true)
    → (t : Token) → has_word t ≡ true → is_mark t ≡ false → begins_by p (word_of t) ≡ true
unmarked p letter digit (Word w) h m = elim (or_cases (among reserved_words w) (among marks w) h) [
  | inl r ↦ by_byte is_name_start p w letter (name_begins w (reserved_name w r))
  | inr k ↦ absurd (both_ways (among marks w) m k)
]
unmarked p letter digit (Name n) h m = by_byte is_name_start p n letter (name_begins n (name_of n h).0)
unmarked p letter digit (Number n) h m = by_byte is_ascii_digit p (decimal n) digit (decimal_begins (decimal n) (decimal_is_decimal n (ltb-true n (2 ^ 64) h)))
unmarked p letter digit (Const w v) h m =
    begins_more p (decimal w) (39 ∷ 104 ∷ digits 16 false v) (by_byte is_ascii_digit p (decimal w) digit (decimal_begins (decimal w) (size_decimal w v (const_fits w v h))))

marked : (p : List ℕ → Bool) (t : Token) → list_all p marks ≡ true → is_mark t ≡ true → p (word_of t) ≡ true
marked p (Word w) all m = among-passes p marks w all m
marked p (Name n) all m = cc
marked p (Number n) all m = cc
marked p (Const w v) all m = cc

letter_bare : (b : ℕ) → is_name_start b ≡ true → is_bare b ≡ true
letter_bare b h = grind (arith, nat_tests)

digit_bare : (b : ℕ) → is_ascii_digit b ≡ true → is_bare b ≡ true
digit_bare b h = grind (arith, nat_tests)

-- No word looks like a separator.
pub bare : (t : Token) (rest : List ℕ) → has_word t ≡ true → begins_separator verilog.comments (word_of t ++ rest) ≡ false
bare t rest h = bare_begins (word_of t ++ rest) (begins_more is_bare (word_of t) rest (go (is_mark t) refl))
  where
    go : (m : Bool) → is_mark t ≡ m → begins_by is_bare (word_of t) ≡ true
    go true e = marked (begins_by is_bare) t refl e
    go false e = unmarked is_bare letter_bare digit_bare t h e

-- a byte that makes no name and no number longer
abbrev is_apart : ℕ → Bool
is_apart b = not (is_name_byte b || is_quote b)

apart : (b : ℕ) → is_apart b ≡ true → (is_name_byte b ≡ false) × (is_quote b ≡ false)
apart b h = or_parts (is_name_byte b) (is_quote b) (not-true (is_name_byte b || is_quote b) h)

apart_digit : (b : ℕ) → is_name_byte b ≡ false → is_ascii_digit b ≡ false
apart_digit b h = false_from_ne_true (is_ascii_digit b) (λ e. both_ways (is_name_byte b) h (grind (arith, nat_tests)))

apart_hexadecimal : (b : ℕ) → is_name_byte b ≡ false → nat_lt (digit_value b) 16 ≡ false
apart_hexadecimal b h = false_from_ne_true (nat_lt (digit_value b) 16) (λ e. both_ways (is_name_byte b) h (grind (arith, nat_tests)))

-- Such a byte ends a word that is no mark.
word_ends : (t : Token) → has_word t ≡ true → is_mark t ≡ false → (c : ℕ) (cs : List ℕ) → is_apart c ≡ true → has_form verilog (word_of t ++ (c ∷ cs)) ≡ false
word_ends (Word w) h m c cs a = elim (or_cases (among reserved_words w) (among marks w) h) [
  | inl r ↦ name_ends w c cs (reserved_name w r) (apart c a).0
  | inr k ↦ absurd (both_ways (among marks w) m k)
]
word_ends (Name n) h m c cs a = name_ends n c cs (name_of n h).0 (apart c a).0
word_ends (Number n) h m c cs a = decimal_ends (decimal n) c cs (decimal_is_decimal n (ltb-true n (2 ^ 64) h)) (apart_digit c (apart c a).0) (apart c a).1
word_ends (Const w v) h m c cs a = constant_ends (decimal w) (digits 16 false v) c cs (size_decimal w v (const_fits w v h)) (apart_hexadecimal c (apart c a).0)

abbrev is_no_equals : ℕ → Bool
is_no_equals b = not (b == 61)

-- All but = ends a mark.
mark_word_ends : (t : Token) → is_mark t ≡ true → (c : ℕ) (cs : List ℕ) → is_no_equals c ≡ true → has_form verilog (word_of t ++ (c ∷ cs)) ≡ false
mark_word_ends (Word w) m c cs a = mark_ends w c cs m (not-true (c == 61) a)
mark_word_ends (Name n) m c cs a = cc
mark_word_ends (Number n) m c cs a = cc
mark_word_ends (Const w v) m c cs a = cc

longest : (t : Token) (next : List ℕ) → has_word t ≡ true → (is_mark t ≡ true → begins_by is_no_equals next ≡ true) → (is_mark t ≡ false → begins_by is_apart next ≡ true)
    → IsLongest verilog (word_of t) next
longest t next h k l = go (is_mark t) refl
  where
    go : (m : Bool) → is_mark t ≡ m → IsLongest verilog (word_of t) next
    go true e = longest_before is_no_equals (word_of t) next (k e) (mark_word_ends t e)
    go false e = longest_before is_apart (word_of t) next (l e) (word_ends t h e)

blank_no_equals : (b : ℕ) → is_blank b ≡ true → is_no_equals b ≡ true
blank_no_equals b h = grind (arith, nat_tests)

blank_apart : (b : ℕ) → is_blank b ≡ true → is_apart b ≡ true
blank_apart b h = grind (arith, nat_tests)

-- A blank ends each word.
pub ends_at_blank : (t : Token) (b : ℕ) (rest : List ℕ) → has_word t ≡ true → is_blank b ≡ true → IsLongest verilog (word_of t) (b ∷ rest)
ends_at_blank t b rest h k = longest t (b ∷ rest) h (λ m. blank_no_equals b k) (λ m. blank_apart b k)

letter_no_equals : (b : ℕ) → is_name_start b ≡ true → is_no_equals b ≡ true
letter_no_equals b h = grind (arith, nat_tests)

digit_no_equals : (b : ℕ) → is_ascii_digit b ≡ true → is_no_equals b ≡ true
digit_no_equals b h = grind (arith, nat_tests)

begins_no_equals : (u : Token) → has_word u ≡ true → not (begins_equal u) ≡ true → begins_by is_no_equals (word_of u) ≡ true
begins_no_equals u h k = go (is_mark u) refl
  where
    some : (w : List ℕ) → begins_by is_mark_byte w ≡ true → not (begins_by (λ b. b == 61) w) ≡ true → begins_by is_no_equals w ≡ true
    some [] h k = cc
    some (b ∷ bs) h k = k

    of_mark : (u : Token) → is_mark u ≡ true → not (begins_equal u) ≡ true → begins_by is_no_equals (word_of u) ≡ true
    of_mark (Word w) m k = some w (mark_begins w m) k
    of_mark (Name n) m k = cc
    of_mark (Number n) m k = cc
    of_mark (Const w v) m k = cc

    go : (m : Bool) → is_mark u ≡ m → begins_by is_no_equals (word_of u) ≡ true
    go true e = of_mark u e k
    go false e = unmarked is_no_equals letter_no_equals digit_no_equals u h e

-- A word ends before one that it may touch.
pub ends_at_word : (t u : Token) (rest : List ℕ) → has_word t ≡ true → has_word u ≡ true → may_touch t u ≡ true → IsLongest verilog (word_of t) (word_of u ++ rest)
ends_at_word t u rest h k j = longest t (word_of u ++ rest) h
    (λ m. begins_more is_no_equals (word_of u) rest (begins_no_equals u k (ap (λ (b : Bool). if b then not (begins_equal u) else is_mark u) (sym m) ∙ j)))
    (λ m. begins_more is_apart (word_of u) rest (marked (begins_by is_apart) u refl (ap (λ (b : Bool). if b then not (begins_equal u) else is_mark u) (sym m) ∙ j)))

abbrev pub printer : Printer verilog
printer = record {
  word_of = word_of;
  has_word = has_word;
  may_touch = may_touch;
  form = form;
  means = means;
  bare = bare;
  ends_at_blank = ends_at_blank;
  ends_at_word = ends_at_word;
}
