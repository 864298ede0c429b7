-- Runs of digits and their values.
use Rattle.std.specs.Char.{is_ascii_digit, digit_value}
use Rattle.std.specs.List.{list_all, take_while, position, position_or_len, before_first, after_first}
use Rattle.std.specs.Option.{option_map, unwrap_or}
use Rattle.std.specs.Str.Parse.{digits_value}
use Rattle.std.proofs.Common.{◌≡◌, ℕ, suc, ◌+◌, ◌*◌, ◌-◌, ◌^◌, ◌<◌, ◌≤◌, Bool, true, false, ◌&&◌, nat_lt, nat_le, cond, Option, Some, None, List, [], ◌∷◌, ◌++◌, length, take, drop, get_or, refl, sym, ap, ◌∙◌, subst, arith, length-take}
use Rattle.std.proofs.lemmas.Bool.Decides.{nat_tests}
use Rattle.std.proofs.Math.Bool.{and-false}
use Rattle.std.proofs.Math.Pow.{pow_mono}
use Rattle.std.proofs.lemmas.List.{drop_all}
use Rattle.std.proofs.lemmas.Nat.{pow_pos}
use Rattle.std.proofs.lemmas.Int.Digits.{digits_value_more}
use Rattle.std.proofs.lemmas.Str.Parse.{digits_value-take-le}
use Rattle.plain_lemmas.proofs.Lists.{take_drop-one as behind_one, take_drop-two as behind_two, take_drop-rest as rest_is}
use Rattle.rb_grammar.proofs.Scanning.{run_passes, run_cons, run_longest, run_taken}
use Rattle.v_design.specs.Lexemes.{is_decimal, is_quote, base_of, is_based}
use Rattle.v_design.proofs.Tests.{and-left, and-right}
use Rattle.v_design.proofs.Spelling.{decimal_digits}
use Rattle.v_design.specs.Lexemes.{constant_of}
use Rattle.v_design.specs.Lexemes as token
use Rattle.v_syntax.specs.Tokens.{numbers_of, constant_in}
use Rattle.v_lexer.specs.Reading.{begins, is_digit_of, is_suffix, IsDecimalLen, IsSuffixLen, as_constant}

-- Decimal numbers.

is_decimal_by : (b : ℕ) (bs : List ℕ) → is_ascii_digit b ≡ true → (b ≡ 48 → ⊥) → list_all is_ascii_digit bs ≡ true → is_decimal (b ∷ bs) ≡ true
is_decimal_by b [] h n p = h
is_decimal_by b (c ∷ cs) h n p =
    let high : nat_lt 48 b ≡ true = grind (arith, nat_tests) in
    rw (h, high, and-left (is_ascii_digit c) (list_all is_ascii_digit cs) p) (and-right (is_ascii_digit c) (list_all is_ascii_digit cs) p)

pub decimal_run : (n : ℕ) (text : List ℕ) → begins is_ascii_digit text ≡ true → (get_or text 0 0 ≡ 48 → ⊥) → n ≡ length (take_while is_ascii_digit text) → IsDecimalLen text n
decimal_run n [] h z e = cc
decimal_run n (b ∷ bs) h z e = record {
  within = omega (arith, e, ap length (run_taken is_ascii_digit n (b ∷ bs) e), length-take n (b ∷ bs));
  found = rw (run_taken is_ascii_digit n (b ∷ bs) e, run_cons is_ascii_digit b bs h) (is_decimal_by b (take_while is_ascii_digit bs) h z (run_passes is_ascii_digit bs));
  longest = λ other after f w. omega (arith, e, run_longest is_ascii_digit (b ∷ bs) other after f (decimal_digits other w));
}

-- ', the letter of a base, and digits.

based_by : (base letter d : ℕ) (ds : List ℕ) → Some base ≡ base_of letter → list_all (is_digit_of base) (d ∷ ds) ≡ true → is_based (letter ∷ d ∷ ds) ≡ true
based_by base letter d ds e h = rw (← e) h

based_digits : (base letter : ℕ) (ds : List ℕ) → Some base ≡ base_of letter → is_based (letter ∷ ds) ≡ true → list_all (is_digit_of base) ds ≡ true
based_digits base letter [] e h = refl
based_digits base letter (d ∷ ds) e h = rw (← e) at h

suffix_found : (base n letter : ℕ) (digits : List ℕ) → Some base ≡ base_of letter → n ≡ length (take_while (is_digit_of base) digits) → 0 < n → is_suffix (39 ∷ letter ∷ take n digits) ≡ true
suffix_found base n letter digits e r l = go (take n digits) (ap (list_all (is_digit_of base)) (run_taken (is_digit_of base) n digits r) ∙ run_passes (is_digit_of base) digits)
    (omega (arith, l, r, ap length (run_taken (is_digit_of base) n digits r)))
  where
    go : (ds : List ℕ) → list_all (is_digit_of base) ds ≡ true → 0 < length ds → is_based (letter ∷ ds) ≡ true
    go [] h l = absurd (omega (arith, l))
    go (d ∷ ds) h l = based_by base letter d ds e h

suffix_longest : (base n letter : ℕ) (digits other after : List ℕ) → Some base ≡ base_of letter → n ≡ length (take_while (is_digit_of base) digits) → 39 ∷ letter ∷ digits ≡ other ++ after → is_suffix other ≡ true → length other ≤ n + 2
suffix_longest base n letter digits [] after e r f w = omega arith
suffix_longest base n letter digits (x ∷ []) after e r f w = omega arith
suffix_longest base n letter digits (x ∷ y ∷ ys) after e r f w =
    let same : y ≡ letter = cc in
    let rest : digits ≡ ys ++ after = cc in
    let based : is_based (y ∷ ys) ≡ true = and-right (is_quote x) (is_based (y ∷ ys)) w in
    omega (arith, r, run_longest (is_digit_of base) digits ys after rest (based_digits base letter ys e (subst (λ z. is_based (z ∷ ys) ≡ true) same based)))

pub suffix_run : (base n : ℕ) (text : List ℕ) → 2 ≤ length text → get_or text 0 0 ≡ 39 → Some base ≡ base_of (get_or text 1 0) → n ≡ length (take_while (is_digit_of base) (take (length text - 2) (drop 2 text))) → (n ≡ 0 → ⊥) → IsSuffixLen text (n + 2)
suffix_run base n [] l q e r z = absurd (omega (arith, l))
suffix_run base n (x ∷ []) l q e r z = absurd (omega (arith, l))
suffix_run base n (x ∷ y ∷ bs) l q e r z =
    let run : n ≡ length (take_while (is_digit_of base) bs) = rw behind_two at r in
    let len : n + 2 ≡ suc (suc n) = omega arith in
    rw q record {
      within = omega (arith, run, ap length (run_taken (is_digit_of base) n bs run), length-take n bs);
      found = λ p. rw len (suffix_found base n y bs e run (omega (arith, z)));
      longest = λ other after f w. suffix_longest base n y bs other after e run f w;
    }

-- Values.

pub value_more : (base v i : ℕ) (text : List ℕ) → i < length text → v ≡ digits_value base (take i text) → digits_value base (take (i + 1) text) ≡ v * base + digit_value (get_or text i 0)
value_more base v i text l e = rw e (digits_value_more base text i l)

pub too_large : (base v i n : ℕ) (text : List ℕ) → 1 ≤ base → i < length text → v ≡ digits_value base (take i text) → n ≤ v * base + digit_value (get_or text i 0) → n ≤ digits_value base text
too_large base v i n text h l e g = omega (arith, g, value_more base v i text l e, digits_value-take-le base text (i + 1) h)

-- Where one digit more makes a number too large, all digits do.

pub product_too_large : (base b v i n : ℕ) (text : List ℕ) → 1 ≤ base → i < length text → v ≡ digits_value base (take i text) → b ≡ base → (v * b < n → ⊥) → n ≤ digits_value base text
product_too_large base b v i n text h l e f g =
    let large : n ≤ v * base = subst (λ z. n ≤ v * z) f (omega (arith, g)) in
    too_large base v i n text h l e (omega (arith, large))

pub sum_too_large : (base b v m d i n : ℕ) (text : List ℕ) → 1 ≤ base → i < length text → v ≡ digits_value base (take i text) → b ≡ base → m ≡ v * b → d ≡ digit_value (get_or text i 0) → (m + d < n → ⊥) → n ≤ digits_value base text
sum_too_large base b v m d i n text h l e f p q g =
    let same : m ≡ v * base = p ∙ ap (λ z. v * z) f in
    too_large base v i n text h l e (omega (arith, same, q, g))

pub sum_is : (base b v m d w i : ℕ) (text : List ℕ) → i < length text → v ≡ digits_value base (take i text) → b ≡ base → m ≡ v * b → d ≡ digit_value (get_or text i 0) → w ≡ m + d → w ≡ digits_value base (take (i + 1) text)
sum_is base b v m d w i text l e f p q s =
    let same : m ≡ v * base = p ∙ ap (λ z. v * z) f in
    omega (arith, same, q, s, value_more base v i text l e)

-- Constants.

pub constant_fits : (size width base value : ℕ) (based : List ℕ) → width ≡ size → (width ≡ 0 → ⊥) → width ≤ 128 → 1 ≤ length based → Some base ≡ base_of (get_or based 0 0)
    → value ≡ digits_value base (take (length based - 1) (drop 1 based)) → value ≤ 2 ^ width - 1 → Some (as_constant (width, value)) ≡ constant_of size based
constant_fits size width base value [] e z h l b v f = absurd (omega (arith, l))
constant_fits size width base value (x ∷ digits) e z h l b v f =
    let low : nat_le 1 width ≡ true = grind (arith, nat_tests) in
    let high : nat_le width 128 ≡ true = grind (arith, nat_tests) in
    let less : value < 2 ^ width = omega (arith, f, pow_pos width) in
    let fits : nat_lt value (2 ^ width) ≡ true = grind (arith, nat_tests) in
    let same : value ≡ digits_value base digits = rw behind_one at v in
    rw (← b, ← e, ← same, low, high, fits) refl

pub constant_too_large : (size width base : ℕ) (based : List ℕ) → width ≡ size → width ≤ 128 → 1 ≤ length based → Some base ≡ base_of (get_or based 0 0)
    → (digits_value base (take (length based - 1) (drop 1 based)) < 2 ^ 128 → ⊥) → None ≡ constant_of size based
constant_too_large size width base [] e h l b f = absurd (omega (arith, l))
constant_too_large size width base (x ∷ digits) e h l b f =
    let large : (digits_value base digits < 2 ^ 128 → ⊥) = rw behind_one at f in
    let over : 2 ^ width ≤ digits_value base digits = omega (arith, large, pow_mono {i = width} {j = 128} h) in
    let fits : nat_lt (digits_value base digits) (2 ^ width) ≡ false = grind (arith, nat_tests) in
    rw (← b, ← e, fits) (sym (ap (λ c. cond c (Some (token.Const width (digits_value base digits))) None) (and-false (nat_le 1 width && nat_le width 128))))

-- A constant whose ' stands there.

pub behind_quote : (at : ℕ) (word : List ℕ) (r : Option (ℕ × ℕ)) → position is_quote word ≡ Some at → option_map as_constant r ≡ constant_of (digits_value 10 (take at word)) (take (length word - (at + 1)) (drop (at + 1) word)) → unwrap_or r (0, 0) ≡ numbers_of (constant_in word)
behind_quote at word r e h =
    let same : position_or_len is_quote word ≡ at = found (nat_lt (position_or_len is_quote word) (length word)) e in
    let means : option_map as_constant r ≡ constant_in word = h ∙ rw (rest_is (at + 1) word, same) refl in
    numbers r ∙ ap numbers_of means
  where
    found : (b : Bool) → cond b (Some (position_or_len is_quote word)) None ≡ Some at → position_or_len is_quote word ≡ at
    found true f = cc
    found false f = cc

    numbers : (r : Option (ℕ × ℕ)) → unwrap_or r (0, 0) ≡ numbers_of (option_map as_constant r)
    numbers None = refl
    numbers (Some p) = refl

pub no_quote : (word : List ℕ) → position is_quote word ≡ None → (0, 0) ≡ numbers_of (constant_in word)
no_quote word e =
    let past : nat_lt (position_or_len is_quote word) (length word) ≡ false = missing (nat_lt (position_or_len is_quote word) (length word)) e in
    let none : after_first is_quote word ≡ [] = drop_all (position_or_len is_quote word + 1) word (grind (arith, nat_tests)) in
    sym (ap (λ z. numbers_of (constant_of (digits_value 10 (before_first is_quote word)) z)) none)
  where
    missing : (b : Bool) → cond b (Some (position_or_len is_quote word)) None ≡ None → b ≡ false
    missing true f = cc
    missing false f = refl
