-- Which classes a lexeme may be of, by its first byte, and what ends it.
use Rattle.std.specs.Char.{is_ascii_digit, digit_value}
use Rattle.std.specs.List.{list_all, before_first, after_first, position_or_len}
use Rattle.std.specs.Str.Parse.{digits_value}
use Rattle.std.proofs.Common.{◌≡◌, ℕ, ◌+◌, suc, ◌==◌, Bool, true, false, not, ◌&&◌, ◌||◌, cond, Option, Some, List, [], ◌∷◌, ◌++◌, refl, ap, sym, ◌∙◌, arith, append_assoc, append-nil, nat_lt}
use Rattle.std.proofs.Math.Bool.{or-false}
use Rattle.std.proofs.lemmas.Bool.{or_parts, both_ways, not-true, false_from_ne_true}
use Rattle.std.proofs.lemmas.Bool.Decides.{nat_tests}
use Rattle.rb_grammar.specs.Separators.{is_blank, begins_separator}
use Rattle.rb_grammar.specs.Lexemes.{has_form, meaning_of}
use Rattle.rb_grammar.specs.Spelling.{IsLongest}
use Rattle.v_design.specs.Lexemes.{Token, Word, Name, Number, among, is_name_start, is_name_byte, is_name, reserved_words, marks, is_decimal, is_quote, is_based, is_constant, constant_of, verilog}
use Rattle.v_design.proofs.Tests.{and-left, and-right, among-passes, all_bytes-at}

-- the text's first byte passes
abbrev pub begins_by : (ℕ → Bool) → List ℕ → Bool
begins_by p [] = false
begins_by p (b ∷ bs) = p b

pub begins_more : (p : ℕ → Bool) (w rest : List ℕ) → begins_by p w ≡ true → begins_by p (w ++ rest) ≡ true
begins_more p [] rest h = cc
begins_more p (b ∷ bs) rest h = h

-- a byte that begins no name and no number
abbrev pub is_mark_byte : ℕ → Bool
is_mark_byte b = not (is_name_start b || is_ascii_digit b)

letter_no_digit : (b : ℕ) → is_name_start b ≡ true → is_ascii_digit b ≡ false
letter_no_digit b h = false_from_ne_true (is_ascii_digit b) (λ e. grind (arith, nat_tests))

digit_no_letter : (b : ℕ) → is_ascii_digit b ≡ true → is_name_start b ≡ false
digit_no_letter b h = false_from_ne_true (is_name_start b) (λ e. grind (arith, nat_tests))

neither : (b : ℕ) → is_mark_byte b ≡ true → (is_name_start b ≡ false) × (is_ascii_digit b ≡ false)
neither b h = or_parts (is_name_start b) (is_ascii_digit b) (not-true (is_name_start b || is_ascii_digit b) h)

-- marks begin with such a byte, and have a = behind it at most
abbrev is_mark_text : List ℕ → Bool
is_mark_text [] = false
is_mark_text (b ∷ []) = is_mark_byte b
is_mark_text (b ∷ c ∷ []) = is_mark_byte b && c == 61
is_mark_text (b ∷ c ∷ d ∷ ds) = false

mark_is_text : (w : List ℕ) → among marks w ≡ true → is_mark_text w ≡ true
mark_is_text w h = among-passes is_mark_text marks w refl h

pub mark_begins : (w : List ℕ) → among marks w ≡ true → begins_by is_mark_byte w ≡ true
mark_begins w h = among-passes (begins_by is_mark_byte) marks w refl h

pub name_begins : (w : List ℕ) → is_name w ≡ true → begins_by is_name_start w ≡ true
name_begins [] h = cc
name_begins (b ∷ bs) h = and-left (is_name_start b) (list_all is_name_byte bs) h

pub decimal_begins : (w : List ℕ) → is_decimal w ≡ true → begins_by is_ascii_digit w ≡ true
decimal_begins [] h = cc
decimal_begins (b ∷ []) h = h
decimal_begins (b ∷ c ∷ bs) h = and-left (is_ascii_digit b) (nat_lt 48 b) (and-left (is_ascii_digit b && nat_lt 48 b) (is_ascii_digit c) (and-left (is_ascii_digit b && nat_lt 48 b && is_ascii_digit c) (list_all is_ascii_digit bs) h))

decimal_rest : (b : ℕ) (bs : List ℕ) → is_decimal (b ∷ bs) ≡ true → list_all is_ascii_digit bs ≡ true
decimal_rest b [] h = refl
decimal_rest b (c ∷ bs) h =
    let q : is_ascii_digit c ≡ true = and-right (is_ascii_digit b && nat_lt 48 b) (is_ascii_digit c) (and-left (is_ascii_digit b && nat_lt 48 b && is_ascii_digit c) (list_all is_ascii_digit bs) h) in
    rw q (and-right (is_ascii_digit b && nat_lt 48 b && is_ascii_digit c) (list_all is_ascii_digit bs) h)

pub decimal_digits : (w : List ℕ) → is_decimal w ≡ true → list_all is_ascii_digit w ≡ true
decimal_digits [] h = refl
decimal_digits (b ∷ bs) h = rw (decimal_begins (b ∷ bs) h) (decimal_rest b bs h)

-- A text before and after its first quote.

one_more : (n : ℕ) → 1 + n ≡ suc n
one_more n = omega arith

more_one : (n : ℕ) → n + 1 ≡ suc n
more_one n = omega arith

before_cons : (x : ℕ) (xs : List ℕ) → is_quote x ≡ false → before_first is_quote (x ∷ xs) ≡ x ∷ before_first is_quote xs
before_cons x xs e = rw (e, one_more (position_or_len is_quote xs)) refl

after_cons : (x : ℕ) (xs : List ℕ) → is_quote x ≡ false → after_first is_quote (x ∷ xs) ≡ after_first is_quote xs
after_cons x xs e = rw (e, one_more (position_or_len is_quote xs), more_one (suc (position_or_len is_quote xs)), more_one (position_or_len is_quote xs)) refl

digit_no_quote : (x : ℕ) → is_ascii_digit x ≡ true → is_quote x ≡ false
digit_no_quote x h = false_from_ne_true (is_quote x) (λ e. grind (arith, nat_tests))

before_digits : (ds rest : List ℕ) → list_all is_ascii_digit ds ≡ true → before_first is_quote (ds ++ rest) ≡ ds ++ before_first is_quote rest
before_digits [] rest h = refl
before_digits (d ∷ ds) rest h =
    before_cons d (ds ++ rest) (digit_no_quote d (and-left (is_ascii_digit d) (list_all is_ascii_digit ds) h)) ∙ ap (λ z. d ∷ z) (before_digits ds rest (and-right (is_ascii_digit d) (list_all is_ascii_digit ds) h))

after_digits : (ds rest : List ℕ) → list_all is_ascii_digit ds ≡ true → after_first is_quote (ds ++ rest) ≡ after_first is_quote rest
after_digits [] rest h = refl
after_digits (d ∷ ds) rest h =
    after_cons d (ds ++ rest) (digit_no_quote d (and-left (is_ascii_digit d) (list_all is_ascii_digit ds) h)) ∙ after_digits ds rest (and-right (is_ascii_digit d) (list_all is_ascii_digit ds) h)

pub before_quote : (ds rest : List ℕ) → list_all is_ascii_digit ds ≡ true → before_first is_quote (ds ++ (39 ∷ rest)) ≡ ds
before_quote ds rest h = before_digits ds (39 ∷ rest) h ∙ append-nil ds

pub after_quote : (ds rest : List ℕ) → list_all is_ascii_digit ds ≡ true → after_first is_quote (ds ++ (39 ∷ rest)) ≡ rest
after_quote ds rest h = after_digits ds (39 ∷ rest) h

-- The class of a lexeme, by its first byte.

no_decimal : (b : ℕ) (bs : List ℕ) → is_ascii_digit b ≡ false → is_decimal (b ∷ bs) ≡ false
no_decimal b bs e = false_from_ne_true (is_decimal (b ∷ bs)) (λ h. both_ways (is_ascii_digit b) e (decimal_begins (b ∷ bs) h))

no_constant : (b : ℕ) (bs : List ℕ) → is_ascii_digit b ≡ false → is_constant (b ∷ bs) ≡ false
no_constant b bs e = go (is_quote b) refl
  where
    go : (q : Bool) → is_quote b ≡ q → is_constant (b ∷ bs) ≡ false
    go true h = rw h refl
    go false h = rw (before_cons b bs h, no_decimal b (before_first is_quote bs) e) refl

no_mark : (b : ℕ) (bs : List ℕ) → is_mark_byte b ≡ false → among marks (b ∷ bs) ≡ false
no_mark b bs e = false_from_ne_true (among marks (b ∷ bs)) (λ h. both_ways (is_mark_byte b) e (mark_begins (b ∷ bs) h))

letter_no_mark : (b : ℕ) → is_name_start b ≡ true → is_mark_byte b ≡ false
letter_no_mark b h = rw h refl

digit_no_mark : (b : ℕ) → is_ascii_digit b ≡ true → is_mark_byte b ≡ false
digit_no_mark b h = rw (digit_no_letter b h, h) refl

first_of_four : (n m d c : Bool) → m ≡ false → d ≡ false → c ≡ false → (n || (m || (d || (c || false)))) ≡ n
first_of_four n m d c e f g = rw (e, f, g) (or-false n)

second_of_four : (n m d c : Bool) → n ≡ false → d ≡ false → c ≡ false → (n || (m || (d || (c || false)))) ≡ m
second_of_four n m d c e f g = rw (e, f, g) (or-false m)

last_of_four : (n m d c : Bool) → n ≡ false → m ≡ false → (n || (m || (d || (c || false)))) ≡ (d || c)
last_of_four n m d c e f = rw (e, f, or-false c) refl

-- A lexeme that begins with a letter or _ is a name or a word.
pub name_form : (w : List ℕ) → begins_by is_name_start w ≡ true → has_form verilog w ≡ is_name w
unfolding verilog
name_form [] h = cc
name_form (b ∷ bs) h = let e = letter_no_digit b h in
    first_of_four (is_name (b ∷ bs)) (among marks (b ∷ bs)) (is_decimal (b ∷ bs)) (is_constant (b ∷ bs)) (no_mark b bs (letter_no_mark b h)) (no_decimal b bs e) (no_constant b bs e)

-- A lexeme that begins with no letter, _ or digit is a mark.
pub mark_form : (w : List ℕ) → begins_by is_mark_byte w ≡ true → has_form verilog w ≡ among marks w
unfolding verilog
mark_form [] h = cc
mark_form (b ∷ bs) h = let e = neither b h in
    second_of_four (is_name (b ∷ bs)) (among marks (b ∷ bs)) (is_decimal (b ∷ bs)) (is_constant (b ∷ bs)) (rw e.0 refl) (no_decimal b bs e.1) (no_constant b bs e.1)

-- A lexeme that begins with a digit is a number or a constant.
pub number_form : (w : List ℕ) → begins_by is_ascii_digit w ≡ true → has_form verilog w ≡ (is_decimal w || is_constant w)
unfolding verilog
number_form [] h = cc
number_form (b ∷ bs) h =
    last_of_four (is_name (b ∷ bs)) (among marks (b ∷ bs)) (is_decimal (b ∷ bs)) (is_constant (b ∷ bs)) (rw (digit_no_letter b h) refl) (no_mark b bs (digit_no_mark b h))

-- What a lexeme means, by its first byte.

pub name_meaning : (w : List ℕ) → is_name w ≡ true → meaning_of verilog w ≡ Some (cond (among reserved_words w) (Word w) (Name w))
unfolding verilog
name_meaning w h = at w (is_name w) h _
  where
    at : (w : List ℕ) (n : Bool) → n ≡ true → (o : Option Token) → cond n (Some (cond (among reserved_words w) (Word w) (Name w))) o ≡ Some (cond (among reserved_words w) (Word w) (Name w))
    at w n e o = rw e refl

second : (n m : Bool) (x y o : Option Token) → n ≡ false → m ≡ true → cond n x (cond m y o) ≡ y
second n m x y o e f = rw (e, f) refl

third : (n m d : Bool) (x y z o : Option Token) → n ≡ false → m ≡ false → d ≡ true → cond n x (cond m y (cond d z o)) ≡ z
third n m d x y z o e f g = rw (e, f, g) refl

fourth : (n m d c : Bool) (x y z u o : Option Token) → n ≡ false → m ≡ false → d ≡ false → c ≡ true → cond n x (cond m y (cond d z (cond c u o))) ≡ u
fourth n m d c x y z u o e f g h = rw (e, f, g, h) refl

no_name : (b : ℕ) (bs : List ℕ) → is_name_start b ≡ false → is_name (b ∷ bs) ≡ false
no_name b bs h = rw h refl

pub mark_meaning : (w : List ℕ) → among marks w ≡ true → meaning_of verilog w ≡ Some (Word w)
unfolding verilog
mark_meaning [] h = cc
mark_meaning (b ∷ bs) h = second (is_name (b ∷ bs)) (among marks (b ∷ bs)) _ (Some (Word (b ∷ bs))) _ (no_name b bs (neither b (mark_begins (b ∷ bs) h)).0) h

pub decimal_meaning : (w : List ℕ) → is_decimal w ≡ true → meaning_of verilog w ≡ Some (Number (digits_value 10 w))
unfolding verilog
decimal_meaning [] h = cc
decimal_meaning (b ∷ bs) h = let d = decimal_begins (b ∷ bs) h in
    third (is_name (b ∷ bs)) (among marks (b ∷ bs)) (is_decimal (b ∷ bs)) _ _ (Some (Number (digits_value 10 (b ∷ bs)))) _ (no_name b bs (digit_no_letter b d)) (no_mark b bs (digit_no_mark b d)) h

digit_meaning : (w : List ℕ) → begins_by is_ascii_digit w ≡ true → is_decimal w ≡ false → is_constant w ≡ true
    → meaning_of verilog w ≡ constant_of (digits_value 10 (before_first is_quote w)) (after_first is_quote w)
unfolding verilog
digit_meaning [] d e h = cc
digit_meaning (b ∷ bs) d e h =
    fourth (is_name (b ∷ bs)) (among marks (b ∷ bs)) (is_decimal (b ∷ bs)) (is_constant (b ∷ bs)) _ _ _ (constant_of (digits_value 10 (before_first is_quote (b ∷ bs))) (after_first is_quote (b ∷ bs))) _
    (no_name b bs (digit_no_letter b d)) (no_mark b bs (digit_no_mark b d)) e h

-- A size, a quote and what follows it.

quote_no_decimal : (size rest : List ℕ) → is_decimal (size ++ (39 ∷ rest)) ≡ false
quote_no_decimal size rest = false_from_ne_true (is_decimal (size ++ (39 ∷ rest))) (λ h.
    let f : false ≡ true = all_bytes-at is_ascii_digit size 39 rest (decimal_digits (size ++ (39 ∷ rest)) h) in cc)

constant_is : (size rest : List ℕ) → is_decimal size ≡ true → is_constant (size ++ (39 ∷ rest)) ≡ is_based rest
constant_is size rest h = let d = decimal_digits size h in rw (before_quote size rest d, after_quote size rest d, h) refl

pub constant_form : (size rest : List ℕ) → is_decimal size ≡ true → has_form verilog (size ++ (39 ∷ rest)) ≡ is_based rest
constant_form size rest h =
    number_form (size ++ (39 ∷ rest)) (begins_more is_ascii_digit size (39 ∷ rest) (decimal_begins size h))
    ∙ (ap (λ z. z || is_constant (size ++ (39 ∷ rest))) (quote_no_decimal size rest) ∙ constant_is size rest h)

pub constant_meaning : (size rest : List ℕ) → is_decimal size ≡ true → is_based rest ≡ true → meaning_of verilog (size ++ (39 ∷ rest)) ≡ constant_of (digits_value 10 size) rest
constant_meaning size rest h b =
    let d = decimal_digits size h in
    digit_meaning (size ++ (39 ∷ rest)) (begins_more is_ascii_digit size (39 ∷ rest) (decimal_begins size h)) (quote_no_decimal size rest) (constant_is size rest h ∙ b)
    ∙ (ap (λ z. constant_of (digits_value 10 z) (after_first is_quote (size ++ (39 ∷ rest)))) (before_quote size rest d) ∙ ap (constant_of (digits_value 10 size)) (after_quote size rest d))

-- What makes no lexeme longer.

pub name_ends : (w : List ℕ) (c : ℕ) (cs : List ℕ) → is_name w ≡ true → is_name_byte c ≡ false → has_form verilog (w ++ (c ∷ cs)) ≡ false
name_ends [] c cs h e = cc
name_ends (b ∷ bs) c cs h e =
    name_form (b ∷ (bs ++ (c ∷ cs))) (name_begins (b ∷ bs) h)
    ∙ false_from_ne_true (is_name (b ∷ (bs ++ (c ∷ cs)))) (λ k. both_ways (is_name_byte c) e (all_bytes-at is_name_byte bs c cs (and-right (is_name_start b) (list_all is_name_byte (bs ++ (c ∷ cs))) k)))

mark_grown : (b : ℕ) (bs : List ℕ) (c : ℕ) (cs : List ℕ) → is_mark_text (b ∷ bs) ≡ true → is_mark_text (b ∷ (bs ++ (c ∷ cs))) ≡ true → c == 61 ≡ true
mark_grown b [] c [] p q = and-right (is_mark_byte b) (c == 61) q
mark_grown b [] c (d ∷ ds) p q = cc
mark_grown b (x ∷ []) c cs p q = cc
mark_grown b (x ∷ y ∷ ys) c cs p q = cc

pub mark_ends : (w : List ℕ) (c : ℕ) (cs : List ℕ) → among marks w ≡ true → c == 61 ≡ false → has_form verilog (w ++ (c ∷ cs)) ≡ false
mark_ends [] c cs h e = absurd (let f : false ≡ true = h in cc)
mark_ends (b ∷ bs) c cs h e =
    mark_form (b ∷ (bs ++ (c ∷ cs))) (mark_begins (b ∷ bs) h)
    ∙ false_from_ne_true (among marks (b ∷ (bs ++ (c ∷ cs)))) (λ k. both_ways (c == 61) e (mark_grown b bs c cs (mark_is_text (b ∷ bs) h) (mark_is_text (b ∷ (bs ++ (c ∷ cs))) k)))

no_longer_decimal : (w : List ℕ) (c : ℕ) (cs : List ℕ) → is_ascii_digit c ≡ false → is_decimal (w ++ (c ∷ cs)) ≡ false
no_longer_decimal w c cs e = false_from_ne_true (is_decimal (w ++ (c ∷ cs))) (λ k. both_ways (is_ascii_digit c) e (all_bytes-at is_ascii_digit w c cs (decimal_digits (w ++ (c ∷ cs)) k)))

pub decimal_ends : (w : List ℕ) (c : ℕ) (cs : List ℕ) → is_decimal w ≡ true → is_ascii_digit c ≡ false → is_quote c ≡ false → has_form verilog (w ++ (c ∷ cs)) ≡ false
decimal_ends w c cs h e q =
    let before : before_first is_quote (w ++ (c ∷ cs)) ≡ w ++ (c ∷ before_first is_quote cs) = before_digits w (c ∷ cs) (decimal_digits w h) ∙ ap (λ z. w ++ z) (before_cons c cs q) in
    let no : is_decimal (before_first is_quote (w ++ (c ∷ cs))) ≡ false = ap is_decimal before ∙ no_longer_decimal w c (before_first is_quote cs) e in
    number_form (w ++ (c ∷ cs)) (begins_more is_ascii_digit w (c ∷ cs) (decimal_begins w h))
    ∙ (ap (λ z. z || is_constant (w ++ (c ∷ cs))) (no_longer_decimal w c cs e) ∙ ap (λ z. z && is_based (after_first is_quote (w ++ (c ∷ cs)))) no)

no_longer_based : (digits : List ℕ) (c : ℕ) (cs : List ℕ) → nat_lt (digit_value c) 16 ≡ false → is_based (104 ∷ (digits ++ (c ∷ cs))) ≡ false
no_longer_based [] c cs e = rw e refl
no_longer_based (d ∷ ds) c cs e =
    let p : ℕ → Bool = λ b. nat_lt (digit_value b) 16 in
    false_from_ne_true (list_all p (d ∷ (ds ++ (c ∷ cs)))) (λ k. both_ways (p c) e (all_bytes-at p (d ∷ ds) c cs k))

pub constant_ends : (size digits : List ℕ) (c : ℕ) (cs : List ℕ) → is_decimal size ≡ true → nat_lt (digit_value c) 16 ≡ false → has_form verilog ((size ++ (39 ∷ 104 ∷ digits)) ++ (c ∷ cs)) ≡ false
constant_ends size digits c cs h e =
    ap (has_form verilog) (append_assoc size (39 ∷ 104 ∷ digits) (c ∷ cs)) ∙ (constant_form size (104 ∷ (digits ++ (c ∷ cs))) h ∙ no_longer_based digits c cs e)

-- A text that begins no separator, and a word that a byte ends.

abbrev pub is_bare : ℕ → Bool
is_bare b = not (is_blank b || b == 47)

pub bare_begins : (w : List ℕ) → begins_by is_bare w ≡ true → begins_separator verilog.comments w ≡ false
unfolding verilog
bare_begins [] h = cc
bare_begins (b ∷ bs) h = go (is_blank b) (b == 47) bs refl refl h
  where
    go : (x y : Bool) (bs : List ℕ) → is_blank b ≡ x → b == 47 ≡ y → not (x || y) ≡ true → begins_separator true (b ∷ bs) ≡ false
    go true y bs e f k = cc
    go false true bs e f k = cc
    go false false [] e f k = rw e refl
    go false false (c ∷ cs) e f k = rw (e, f) refl

pub longest_before : (p : ℕ → Bool) (word next : List ℕ) → begins_by p next ≡ true → ((c : ℕ) (cs : List ℕ) → p c ≡ true → has_form verilog (word ++ (c ∷ cs)) ≡ false) → IsLongest verilog word next
longest_before p word next h k [] after e f = refl
longest_before p word [] h k (c ∷ cs) after e f = cc
longest_before p word (b ∷ bs) h k (c ∷ cs) after e f =
    let same : b ≡ c = cc in
    absurd (both_ways (has_form verilog (word ++ (c ∷ cs))) (k c cs (sym (ap p same) ∙ h)) f)
