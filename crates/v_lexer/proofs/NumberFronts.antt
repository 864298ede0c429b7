-- The longest number or constant at the front of a text.
use Rattle.std.specs.Char.{is_ascii_digit}
use Rattle.std.specs.List.{list_all, before_first, after_first, position_or_len}
use Rattle.std.specs.Str.Parse.{digits_value}
use Rattle.std.proofs.Common.{◌≡◌, ℕ, zero, suc, ◌+◌, ◌-◌, ◌<◌, ◌≤◌, Bool, true, false, Some, None, List, [], ◌∷◌, ◌++◌, length, take, drop, refl, sym, ap, ◌∙◌, subst, arith, length-append, length-drop, inl, inr, append_assoc}
use Rattle.std.proofs.lemmas.Bool.{or_cases, cases_lt}
use Rattle.std.proofs.lemmas.Bool.Decides.{nat_tests}
use Rattle.std.proofs.lemmas.List.{drop_at}
use Rattle.plain_lemmas.proofs.Numbers.{one-plus as one_more, plus-one as more_one}
use Rattle.rb_grammar.specs.Separators.{begins_separator}
use Rattle.rb_grammar.specs.Lexemes.{has_form, meaning_of}
use Rattle.rb_grammar.specs.Spelling.{IsNext, NoMeaning, no_meaning}
use Rattle.v_design.specs.Lexemes.{Number, is_decimal, is_quote, is_based, is_constant, constant_of, verilog}
use Rattle.v_design.specs.Lexemes as token
use Rattle.v_design.proofs.Tests.{and-left, and-right}
use Rattle.v_design.proofs.Spelling.{number_form, decimal_begins, decimal_digits, decimal_meaning, constant_form, constant_meaning, before_quote, after_quote}
use Rattle.v_syntax.specs.Tokens.{constant_in}
use Rattle.v_syntax.specs.declared.token.VKind.TheVariants as kinds
use Rattle.v_lexer.specs.Reading.{begins, is_suffix, IsDecimalLen, IsSuffixLen, IsLexeme, HasFault}
use Rattle.v_lexer.proofs.Fronts.{IsBound, next_by, begins_front}

-- A constant is a size, ' and what stands behind.

before_cons : (x : ℕ) (xs : List ℕ) → is_quote x ≡ false → before_first is_quote (x ∷ xs) ≡ x ∷ before_first is_quote xs
before_cons x xs e = rw (e, one_more (position_or_len is_quote xs)) refl

after_cons : (x : ℕ) (xs : List ℕ) → is_quote x ≡ false → after_first is_quote (x ∷ xs) ≡ after_first is_quote xs
after_cons x xs e = rw (e, one_more (position_or_len is_quote xs), more_one (suc (position_or_len is_quote xs)), more_one (position_or_len is_quote xs)) refl

before_here : (x : ℕ) (xs : List ℕ) → is_quote x ≡ true → before_first is_quote (x ∷ xs) ≡ []
before_here x xs e = rw e refl

after_here : (x : ℕ) (xs : List ℕ) → is_quote x ≡ true → after_first is_quote (x ∷ xs) ≡ xs
after_here x xs e = rw e refl

quote_is : (x : ℕ) → is_quote x ≡ true → x ≡ 39
quote_is x e = grind (arith, nat_tests)

split_quote : (xs : List ℕ) → is_based (after_first is_quote xs) ≡ true → xs ≡ before_first is_quote xs ++ (39 ∷ after_first is_quote xs)
split_quote [] h = cc
split_quote (x ∷ xs) h = go (is_quote x) refl (split_quote xs)
  where
    go : (q : Bool) → is_quote x ≡ q → (is_based (after_first is_quote xs) ≡ true → xs ≡ before_first is_quote xs ++ (39 ∷ after_first is_quote xs)) → x ∷ xs ≡ before_first is_quote (x ∷ xs) ++ (39 ∷ after_first is_quote (x ∷ xs))
    go true e ih = rw (before_here x xs e, after_here x xs e) (ap (λ z. z ∷ xs) (quote_is x e))
    go false e ih = rw (before_cons x xs e, after_cons x xs e) (ap (λ z. x ∷ z) (ih (subst (λ z. is_based z ≡ true) (after_cons x xs e) h)))

constant_parts : (word : List ℕ) → is_constant word ≡ true → (size : List ℕ) × (based : List ℕ) × (word ≡ size ++ (39 ∷ based)) × (is_decimal size ≡ true) × (is_based based ≡ true)
constant_parts word h =
    let d = and-left (is_decimal (before_first is_quote word)) (is_based (after_first is_quote word)) h in
    let b = and-right (is_decimal (before_first is_quote word)) (is_based (after_first is_quote word)) h in
    (before_first is_quote word, after_first is_quote word, split_quote word b, d, b)

-- Where a size and ' stand at the front, the longest decimal number is the size.

stops_at_quote : (n : ℕ) (size rest : List ℕ) → length size < n → list_all is_ascii_digit (take n (size ++ (39 ∷ rest))) ≡ true → ⊥
stops_at_quote zero size rest l h = omega (arith, l)
stops_at_quote (suc n) [] rest l h = let f : false ≡ true = h in cc
stops_at_quote (suc n) (x ∷ size) rest l h = stops_at_quote n size rest (omega (arith, l)) (and-right (is_ascii_digit x) (list_all is_ascii_digit (take n (size ++ (39 ∷ rest)))) h)

size_is : (n : ℕ) (text size rest : List ℕ) → IsDecimalLen text n → text ≡ size ++ (39 ∷ rest) → is_decimal size ≡ true → length size ≡ n
size_is n text size rest d e h = elim (cases_lt (length size) n) [
  | inl l ↦ absurd (stops_at_quote n size rest l (subst (λ z. list_all is_ascii_digit (take n z) ≡ true) e (decimal_digits (take n text) d.found)))
  | inr g ↦ omega (arith, g, d.longest size (39 ∷ rest) e h)
]

-- No number or constant at the front is longer.

constant_bound : (n k : ℕ) (text other after : List ℕ) → IsDecimalLen text n → IsSuffixLen (drop n text) k → text ≡ other ++ after → is_constant other ≡ true → length other ≤ n + k
constant_bound n k text other after d s e h =
    let p = constant_parts other h in
    let whole : text ≡ p.0 ++ (39 ∷ (p.1 ++ after)) = e ∙ (ap (λ z. z ++ after) p.2 ∙ append_assoc p.0 (39 ∷ p.1) after) in
    let size = size_is n text p.0 (p.1 ++ after) d whole p.3 in
    let rest : drop n text ≡ 39 ∷ (p.1 ++ after) = ap (drop n) whole ∙ drop_at p.0 (39 ∷ (p.1 ++ after)) n size in
    omega (arith, size, ap length p.2, length-append p.0 (39 ∷ p.1), s.longest (39 ∷ p.1) after rest p.4)

number_bound : (n k : ℕ) (text : List ℕ) → begins is_ascii_digit text ≡ true → IsDecimalLen text n → IsSuffixLen (drop n text) k → IsBound (n + k) text
number_bound n k text h d s [] after e f = omega arith
number_bound n k text h d s (y ∷ ys) after e f =
    elim (or_cases (is_decimal (y ∷ ys)) (is_constant (y ∷ ys)) (sym (number_form (y ∷ ys) (begins_front is_ascii_digit text (y ∷ ys) after h e (omega arith))) ∙ f)) [
      | inl p ↦ omega (arith, d.longest (y ∷ ys) after e p)
      | inr p ↦ constant_bound n k text (y ∷ ys) after d s e p
    ]

decimal_is_form : (word : List ℕ) → is_decimal word ≡ true → has_form verilog word ≡ true
decimal_is_form word h = number_form word (decimal_begins word h) ∙ rw h refl

pub decimal_lexeme : (n k : ℕ) (text : List ℕ) → begins_separator true text ≡ false → begins is_ascii_digit text ≡ true → IsDecimalLen text n → IsSuffixLen (drop n text) k → k ≡ 0 → IsLexeme text n kinds.Dec
decimal_lexeme n k text bare h d s z =
    let len : n + k ≡ n = omega (arith, z) in
    record {
      within = d.within;
      next = next_by n text d.within bare (decimal_is_form (take n text) d.found) (subst (λ m. IsBound m text) len (number_bound n k text h d s));
      means = decimal_meaning (take n text) d.found;
      of_kind = d.found;
    }

-- Constants.

suffix_is : (word : List ℕ) → is_suffix word ≡ true → (based : List ℕ) × (word ≡ 39 ∷ based) × (is_based based ≡ true)
suffix_is [] h = cc
suffix_is (q ∷ based) h = (based, ap (λ z. z ∷ based) (quote_is q (and-left (is_quote q) (is_based based) h)), and-right (is_quote q) (is_based based) h)

take_nothing : (n : ℕ) → ◌≡◌ {A = List ℕ} (take n []) []
take_nothing zero = refl
take_nothing (suc n) = refl

drop_nothing : (n : ℕ) → ◌≡◌ {A = List ℕ} (drop n []) []
drop_nothing zero = refl
drop_nothing (suc n) = refl

take_more : (n k : ℕ) (text : List ℕ) → take (n + k) text ≡ take n text ++ take k (drop n text)
take_more zero k text = ap (λ m. take m text) (zero_more k)
  where
    zero_more : (k : ℕ) → 0 + k ≡ k
    zero_more k = omega arith
take_more (suc n) k [] = take_nothing (suc n + k) ∙ sym (take_nothing k)
take_more (suc n) k (x ∷ xs) =
    let len : suc n + k ≡ suc (n + k) = omega arith in
    ap (λ m. take m (x ∷ xs)) len ∙ ap (λ z. x ∷ z) (take_more n k xs)

drop_more : (n k : ℕ) (text : List ℕ) → drop (n + k) text ≡ drop k (drop n text)
drop_more zero k text = ap (λ m. drop m text) (zero_more k)
  where
    zero_more : (k : ℕ) → 0 + k ≡ k
    zero_more k = omega arith
drop_more (suc n) k [] = drop_nothing (suc n + k) ∙ sym (drop_nothing k)
drop_more (suc n) k (x ∷ xs) =
    let len : suc n + k ≡ suc (n + k) = omega arith in
    ap (λ m. drop m (x ∷ xs)) len ∙ drop_more n k xs

-- the constant at the front, its size and what stands behind its '
pub record IsConstantAt (n k : ℕ) (text : List ℕ) : Type 0 where
  pub based : List ℕ
  pub whole : take (n + k) text ≡ take n text ++ (39 ∷ based)
  pub behind : take (n + k - (n + 1)) (drop (n + 1) text) ≡ based
  pub found : is_based based ≡ true

pub constant_at : (n k : ℕ) (text : List ℕ) → IsDecimalLen text n → IsSuffixLen (drop n text) k → (k ≡ 0 → ⊥) → IsConstantAt n k text
constant_at n k text d s z =
    let p = suffix_is (take k (drop n text)) (s.found (omega (arith, z))) in
    record {
      based = p.0;
      whole = take_more n k text ∙ ap (λ z. take n text ++ z) p.1;
      behind = ap (take (n + k - (n + 1))) (drop_more n 1 text) ∙ behind (drop n text) k (n + k - (n + 1)) p.0 (omega (arith, z)) p.1;
      found = p.2;
    }
  where
    behind : (rest : List ℕ) (k m : ℕ) (based : List ℕ) → k ≡ suc m → take k rest ≡ 39 ∷ based → take m (drop 1 rest) ≡ based
    behind [] k m based e f = let len : 0 ≡ suc (length based) = sym (ap length (ap (λ j. take j []) e)) ∙ ap length f in absurd (omega (arith, len))
    behind (x ∷ xs) k m based e f = let g : x ∷ take m xs ≡ 39 ∷ based = sym (ap (λ j. take j (x ∷ xs)) e) ∙ f in cc

constant_is_form : (n k : ℕ) (text : List ℕ) (d : IsDecimalLen text n) (c : IsConstantAt n k text) → has_form verilog (take (n + k) text) ≡ true
constant_is_form n k text d c = ap (has_form verilog) c.whole ∙ (constant_form (take n text) c.based d.found ∙ c.found)

constant_is : (n k : ℕ) (text : List ℕ) (d : IsDecimalLen text n) (c : IsConstantAt n k text) → meaning_of verilog (take (n + k) text) ≡ constant_of (digits_value 10 (take n text)) (take (n + k - (n + 1)) (drop (n + 1) text))
constant_is n k text d c = ap (meaning_of verilog) c.whole ∙ (constant_meaning (take n text) c.based d.found c.found ∙ ap (constant_of (digits_value 10 (take n text))) (sym c.behind))

is_a_constant : (size based : List ℕ) → is_decimal size ≡ true → is_based based ≡ true → is_constant (size ++ (39 ∷ based)) ≡ true
is_a_constant size based h b = let d = decimal_digits size h in rw (before_quote size based d, after_quote size based d, h) b

all_within : (n k : ℕ) (text : List ℕ) → IsDecimalLen text n → IsSuffixLen (drop n text) k → n + k ≤ length text
all_within n k text d s = omega (arith, d.within, s.within, length-drop n text)

constant_next : (n k : ℕ) (text : List ℕ) → begins_separator true text ≡ false → begins is_ascii_digit text ≡ true → (d : IsDecimalLen text n) → (s : IsSuffixLen (drop n text) k) → IsConstantAt n k text
    → IsNext verilog text (take (n + k) text) (drop (n + k) text)
constant_next n k text bare h d s c = next_by (n + k) text (all_within n k text d s) bare (constant_is_form n k text d c) (number_bound n k text h d s)

pub constant_lexeme : (n k width value : ℕ) (text : List ℕ) → begins_separator true text ≡ false → begins is_ascii_digit text ≡ true → IsDecimalLen text n → IsSuffixLen (drop n text) k → (k ≡ 0 → ⊥)
    → Some (token.Const width value) ≡ constant_of (digits_value 10 (take n text)) (take (n + k - (n + 1)) (drop (n + 1) text)) → IsLexeme text (n + k) (kinds.Const width value)
constant_lexeme n k width value text bare h d s z e =
    let c = constant_at n k text d s z in
    record {
      within = all_within n k text d s;
      next = constant_next n k text bare h d s c;
      means = constant_is n k text d c ∙ sym e;
      of_kind = rw c.whole (is_a_constant (take n text) c.based d.found c.found);
    }

pub constant_fault : (n k : ℕ) (text : List ℕ) → begins_separator true text ≡ false → begins is_ascii_digit text ≡ true → IsDecimalLen text n → IsSuffixLen (drop n text) k → (k ≡ 0 → ⊥)
    → None ≡ constant_of (digits_value 10 (take n text)) (take (n + k - (n + 1)) (drop (n + 1) text)) → HasFault text
constant_fault n k text bare h d s z e =
    let c = constant_at n k text d s z in
    (NoMeaning (take (n + k) text), no_meaning (take (n + k) text) (drop (n + k) text) (constant_next n k text bare h d s c) (constant_is n k text d c ∙ sym e))

-- a lexeme of a constant's form means a constant, if anything
pub constant_meant : (word : List ℕ) → is_constant word ≡ true → meaning_of verilog word ≡ constant_in word
constant_meant word h =
    let d = and-left (is_decimal (before_first is_quote word)) (is_based (after_first is_quote word)) h in
    let b = and-right (is_decimal (before_first is_quote word)) (is_based (after_first is_quote word)) h in
    ap (meaning_of verilog) (split_quote word b) ∙ constant_meaning (before_first is_quote word) (after_first is_quote word) d b
