-- The longest number at the front of a text.
use Rattle.std.specs.Char.{is_ascii_digit}
use Rattle.std.specs.List.{list_all, list_any, take_while, before_first, after_first}
use Rattle.std.specs.Str.{bytes_eq}
use Rattle.std.specs.Str.Parse.{digits_value}
use Rattle.std.proofs.Common.{◌≡◌, ℕ, ◌+◌, ◌-◌, ◌<◌, ◌≤◌, Bool, true, false, not, ◌&&◌, ◌||◌, ◌==◌, Option, None, List, [], ◌∷◌, ◌++◌, length, take, drop, get_or, suc, codes, refl, sym, ap, ◌∙◌, subst, arith, ◌⊎◌, inl, inr, length-append, length-take, length-drop, take-append-drop, drop-cons, append_assoc}
use Rattle.std.proofs.lemmas.Bool.{and_parts}
use Rattle.std.proofs.lemmas.Bool.Decides.{nat_tests}
use Rattle.std.proofs.Math.Bool.{and-false}
use Rattle.std.proofs.lemmas.List.{take_at, drop_at, get_or-drop}
use Rattle.plain_lemmas.proofs.Bools.{false-of_not_true as refute}
use Rattle.plain_lemmas.proofs.Lists.{take_drop-rest as rest_is, take_drop-two as behind_two}
use Rattle.rb_grammar.specs.Separators.{begins_separator}
use Rattle.rb_grammar.specs.Lexemes.{has_form, meaning_of}
use Rattle.rb_grammar.proofs.Scanning.{run_passes, run_cons, run_longest, run_taken}
use Rattle.rdl_lexer.specs.Numbers.{is_quote, is_in_decimal, is_in_hexadecimal, is_decimal, begins_hexadecimal, is_hexadecimal, is_based, is_sized, digits_of, value_of, value_of_size}
use Rattle.rdl_lexer.specs.Lexemes.{systemrdl, number}
use Rattle.rdl_lexer.specs.Reading.{IsNumberAt, Breaks, begins}
use Rattle.rb_grammar.specs.Spelling.{no_meaning, NoMeaning}
use Rattle.rdl_base.specs.declared.rule.Rule.TheVariants.{L4}
use Rattle.rdl_lexer.proofs.Splits.{split_quote, before_digits, after_digits, has_quote, not_all_digits, run_before}
use Rattle.rdl_lexer.proofs.Classes.{form_of_digit, decimal_means, hexadecimal_means, sized_means, no_perl}
use Rattle.rdl_lexer.proofs.Sizes.{decimal_passes}
use Rattle.rdl_lexer.proofs.Fronts.{IsBound, next_by}

digit_starts : (b : ℕ) → is_ascii_digit b ≡ true → is_in_decimal b ≡ true
digit_starts b h = rw h refl

digit_no_perl : (b : ℕ) (bs : List ℕ) → is_ascii_digit b ≡ true → bytes_eq (codes "<%") (b ∷ bs) ≡ false
digit_no_perl b bs h = no_perl b bs (rw h (go _))
  where
    go : (l : Bool) → not (l || true) ≡ false
    go true = refl
    go false = refl

one_of : (a b c : Bool) → (a || (b || c)) ≡ true → (a ≡ true) ⊎ ((b ≡ true) ⊎ (c ≡ true))
one_of true b c h = inl refl
one_of false true c h = inr (inl refl)
one_of false false c h = inr (inr h)

-- what is a number at the front is of one of three classes
front_cases : (y : ℕ) (ys : List ℕ) → is_ascii_digit y ≡ true → has_form systemrdl (y ∷ ys) ≡ true → (is_decimal (y ∷ ys) ≡ true) ⊎ ((is_hexadecimal (y ∷ ys) ≡ true) ⊎ (is_sized (y ∷ ys) ≡ true))
front_cases y ys h w = one_of _ _ _ (sym (form_of_digit y ys h) ∙ w)

-- The parts of a sized number.
sized_parts : (word : List ℕ) → is_sized word ≡ true → (size : List ℕ) × (based : List ℕ) × (word ≡ size ++ (39 ∷ based)) × (is_decimal size ≡ true) × (is_based based ≡ true)
sized_parts word h =
    let p = and_parts (is_decimal (before_first is_quote word)) (list_any is_quote word && is_based (after_first is_quote word)) h in
    let q = and_parts (list_any is_quote word) (is_based (after_first is_quote word)) p.1 in
    (before_first is_quote word, after_first is_quote word, split_quote word q.0, p.0, q.1)

pub sized_form : (size based : List ℕ) → is_decimal size ≡ true → is_based based ≡ true → is_sized (size ++ (39 ∷ based)) ≡ true
sized_form size based h e = let d = decimal_passes size h in rw (before_digits size based d, after_digits size based d, has_quote size based, h) e

not_decimal : (size based : List ℕ) → is_decimal (size ++ (39 ∷ based)) ≡ false
not_decimal size based = refute _ (λ h. not_all_digits size based (decimal_passes (size ++ (39 ∷ based)) h))

-- a front that begins like a hexadecimal number
hexadecimal_front : (word after : List ℕ) → begins_hexadecimal word ≡ true → begins_hexadecimal (word ++ after) ≡ true
hexadecimal_front [] after h = cc
hexadecimal_front (b ∷ []) after h = cc
hexadecimal_front (b ∷ x ∷ bs) after h = h

no_hexadecimal_front : (text word after : List ℕ) → begins_hexadecimal text ≡ false → text ≡ word ++ after → is_hexadecimal word ≡ true → ⊥
no_hexadecimal_front text word after h e w =
    let p = and_parts (begins_hexadecimal word) (list_all is_in_hexadecimal (drop 2 word)) w in
    let k = sym (ap begins_hexadecimal e ∙ hexadecimal_front word after p.0) in
    cc

-- where a sized number begins the text, the run of digits ends at its '
quote_behind : (n : ℕ) (text size based after : List ℕ) → n ≡ length (take_while is_in_decimal text) → text ≡ (size ++ (39 ∷ based)) ++ after → is_decimal size ≡ true → (length size ≡ n) × (drop n text ≡ 39 ∷ (based ++ after))
quote_behind n text size based after r e d =
    let whole : text ≡ size ++ (39 ∷ (based ++ after)) = e ∙ append_assoc size (39 ∷ based) after in
    let run : take_while is_in_decimal text ≡ size = ap (take_while is_in_decimal) whole ∙ run_before size 39 (based ++ after) (decimal_passes size d) refl in
    let len : length size ≡ n = sym (r ∙ ap length run) in
    (len, ap (drop n) whole ∙ drop_at size (39 ∷ (based ++ after)) n len)

-- Decimal numbers.

decimal_taken : (n b : ℕ) (bs : List ℕ) → is_ascii_digit b ≡ true → n ≡ length (take_while is_in_decimal (b ∷ bs)) → take n (b ∷ bs) ≡ b ∷ take_while is_in_decimal bs
decimal_taken n b bs h r = run_taken is_in_decimal n (b ∷ bs) r ∙ run_cons is_in_decimal b bs (digit_starts b h)

pub decimal_front : (n : ℕ) (text : List ℕ) → begins is_ascii_digit text ≡ true → n ≡ length (take_while is_in_decimal text) → is_decimal (take n text) ≡ true
decimal_front n [] h r = cc
decimal_front n (b ∷ bs) h r = rw (decimal_taken n b bs h r, h) (run_passes is_in_decimal bs)

run_fits : (n : ℕ) (text : List ℕ) → n ≡ length (take_while is_in_decimal text) → n ≤ length text
run_fits n text r = omega (arith, r, ap length (run_taken is_in_decimal n text r), length-take n text)

decimal_bound : (n : ℕ) (text : List ℕ) → begins is_ascii_digit text ≡ true → begins_hexadecimal text ≡ false → n ≡ length (take_while is_in_decimal text) → ((rest : List ℕ) → drop n text ≡ 39 ∷ rest → ⊥) → IsBound n text
decimal_bound n text h x r plain [] after e w = omega arith
decimal_bound n text h x r plain (y ∷ ys) after e w =
    elim (front_cases y ys (subst (λ z. begins is_ascii_digit z ≡ true) e h) w) [
      | inl d ↦ omega (arith, r, run_longest is_in_decimal text (y ∷ ys) after e (decimal_passes (y ∷ ys) d))
      | inr q ↦ absurd (elim q [
        | inl d ↦ no_hexadecimal_front text (y ∷ ys) after x e d
        | inr s ↦ (let p = sized_parts (y ∷ ys) s in plain (p.1 ++ after) (quote_behind n text p.0 p.1 after r (e ∙ ap (λ z. z ++ after) p.2) p.3).1)
      ])
    ]

pub decimal_number : (n : ℕ) (text : List ℕ) (value : Option ℕ) → begins_separator true text ≡ false → begins is_ascii_digit text ≡ true → begins_hexadecimal text ≡ false → n ≡ length (take_while is_in_decimal text)
    → ((rest : List ℕ) → drop n text ≡ 39 ∷ rest → ⊥) → value ≡ value_of 64 10 (take n text) → IsNumberAt text n value
decimal_number n [] value bare h x r plain v = cc
decimal_number n (b ∷ bs) value bare h x r plain v =
    let taken = decimal_taken n b bs h r in
    let decimal : is_decimal (b ∷ take_while is_in_decimal bs) ≡ true = rw h (run_passes is_in_decimal bs) in
    let form : has_form systemrdl (b ∷ take_while is_in_decimal bs) ≡ true = form_of_digit b _ h ∙ rw decimal refl in
    record {
      within = run_fits n (b ∷ bs) r;
      next = next_by n (b ∷ bs) (run_fits n (b ∷ bs) r) bare (rw taken form) (decimal_bound n (b ∷ bs) h x r plain);
      means = rw (v, taken) (decimal_means b _ decimal);
      no_perl = rw taken (digit_no_perl b (take_while is_in_decimal bs) h);
    }

plus_zero : (n : ℕ) → n + 0 ≡ n
plus_zero n = omega arith

-- no ' stands behind the digits
pub plain_behind : (n : ℕ) (text : List ℕ) → (n ≡ length text) ⊎ ((n ≡ length text → ⊥) × (get_or text n 0 ≡ 39 → ⊥)) → (rest : List ℕ) → drop n text ≡ 39 ∷ rest → ⊥
plain_behind n text (inl e) rest f = omega (arith, e, ap length f, length-drop n text)
plain_behind n text (inr h) rest f = h.1 (sym (get_or-drop n text 0 0 ∙ ap (λ k. get_or text k 0) (plus_zero n)) ∙ ap (λ z. get_or z 0 0) f)

-- Hexadecimal numbers.

hexadecimal_is : (b x : ℕ) (bs : List ℕ) → begins_hexadecimal (b ∷ x ∷ bs) ≡ true → (b ≡ 48) × ((x ≡ 120) ⊎ (x ≡ 88))
hexadecimal_is b x bs h = let p = and_parts (b == 48) (x == 120 || x == 88) h in (grind (arith, nat_tests), go (x == 120) (x == 88) refl refl p.1)
  where
    go : (low high : Bool) → (x == 120) ≡ low → (x == 88) ≡ high → (low || high) ≡ true → (x ≡ 120) ⊎ (x ≡ 88)
    go true high e f k = inl (grind (arith, nat_tests))
    go false true e f k = inr (grind (arith, nat_tests))
    go false false e f k = cc

x_no_digit : (x : ℕ) → (x ≡ 120) ⊎ (x ≡ 88) → (is_in_decimal x ≡ false) × (x ≡ 39 → ⊥)
x_no_digit x (inl e) = rw e (refl, λ f. omega (arith, f))
x_no_digit x (inr e) = rw e (refl, λ f. omega (arith, f))

clash : (t : Bool) → t ≡ true → t ≡ false → ⊥
clash t e f = cc

-- 0 and x begin no sized number
no_sized_hexadecimal : (y z : ℕ) (zs : List ℕ) → is_in_decimal z ≡ false → (z ≡ 39 → ⊥) → is_sized (y ∷ z ∷ zs) ≡ true → ⊥
no_sized_hexadecimal y z zs d q s = let p = sized_parts (y ∷ z ∷ zs) s in go p.0 p.1 p.2 p.3
  where
    go : (size based : List ℕ) → y ∷ z ∷ zs ≡ size ++ (39 ∷ based) → is_decimal size ≡ true → ⊥
    go [] based e h = cc
    go (c ∷ []) based e h = let f : z ≡ 39 = cc in q f
    go (c ∷ e ∷ es) based f h =
        let same : e ≡ z = cc in
        let p = and_parts (is_ascii_digit c) (is_in_decimal e && list_all is_in_decimal es) h in
        let k = and_parts (is_in_decimal e) (list_all is_in_decimal es) p.1 in
        clash _ (subst (λ w. is_in_decimal w ≡ true) same k.0) d

hexadecimal_bound : (k b x : ℕ) (bs : List ℕ) → begins_hexadecimal (b ∷ x ∷ bs) ≡ true → k ≡ length (take_while is_in_hexadecimal bs) → IsBound (suc (suc k)) (b ∷ x ∷ bs)
hexadecimal_bound k b x bs h r [] after e w = omega arith
hexadecimal_bound k b x bs h r (y ∷ []) after e w = omega arith
hexadecimal_bound k b x bs h r (y ∷ z ∷ zs) after e w =
    let first : b ≡ y = cc in
    let second : z ≡ x = cc in
    let rest : bs ≡ zs ++ after = cc in
    let parts = hexadecimal_is b x bs h in
    let no_digit = x_no_digit x parts.1 in
    let digit : is_ascii_digit y ≡ true = rw (← first, parts.0) refl in
    elim (front_cases y (z ∷ zs) digit w) [
      | inl d ↦ (let p = and_parts (is_in_decimal y) (is_in_decimal z && list_all is_in_decimal zs) (decimal_passes (y ∷ z ∷ zs) d) in let q = and_parts (is_in_decimal z) (list_all is_in_decimal zs) p.1 in let f = subst (λ c. is_in_decimal c ≡ true) second q.0 in absurd (clash _ f no_digit.0))
      | inr q ↦ elim q [
        | inl d ↦ (let p = and_parts (begins_hexadecimal (y ∷ z ∷ zs)) (list_all is_in_hexadecimal zs) d in omega (arith, r, run_longest is_in_hexadecimal bs zs after rest p.1))
        | inr s ↦ absurd (no_sized_hexadecimal y z zs (subst (λ c. is_in_decimal c ≡ false) (sym second) no_digit.0) (λ f. no_digit.1 (sym second ∙ f)) s)
      ]
    ]

pub hexadecimal_number : (k : ℕ) (text : List ℕ) (value : Option ℕ) → begins_separator true text ≡ false → begins_hexadecimal text ≡ true → k ≡ length (take_while is_in_hexadecimal (take (length text - 2) (drop 2 text)))
    → value ≡ value_of 64 16 (take (k + 2 - 2) (drop 2 text)) → IsNumberAt text (k + 2) value
hexadecimal_number k [] value bare h r v = cc
hexadecimal_number k (b ∷ []) value bare h r v = cc
hexadecimal_number k (b ∷ x ∷ bs) value bare h r v =
    let run : k ≡ length (take_while is_in_hexadecimal bs) = rw behind_two at r in
    let len : k + 2 ≡ suc (suc k) = omega arith in
    let less : suc (suc k) - 2 ≡ k = omega arith in
    let parts = hexadecimal_is b x bs h in
    let no_digit = x_no_digit x parts.1 in
    let digit : is_ascii_digit b ≡ true = rw parts.0 refl in
    let fits : k ≤ length bs = omega (arith, run, ap length (run_taken is_in_hexadecimal k bs run), length-take k bs) in
    let all : suc (suc k) ≤ length (b ∷ x ∷ bs) = omega (arith, fits) in
    let passes : list_all is_in_hexadecimal (take k bs) ≡ true = rw (run_taken is_in_hexadecimal k bs run) (run_passes is_in_hexadecimal bs) in
    let begins_it : begins_hexadecimal (b ∷ x ∷ take k bs) ≡ true = h in
    let hexadecimal : is_hexadecimal (b ∷ x ∷ take k bs) ≡ true = rw (begins_it, passes) refl in
    let decimal : is_decimal (b ∷ x ∷ take k bs) ≡ false = rw (no_digit.0) (and-false _) in
    rw len record {
      within = all;
      next = next_by (suc (suc k)) (b ∷ x ∷ bs) all bare (form_of_digit b (x ∷ take k bs) digit ∙ rw (decimal, hexadecimal) refl) (hexadecimal_bound k b x bs h run);
      means = rw v (rw (len, less) (hexadecimal_means b (x ∷ take k bs) digit decimal hexadecimal));
      no_perl = digit_no_perl b (x ∷ take k bs) digit;
    }

-- Sized numbers.

-- a sized number at the front is no longer than the digits, the ' and what may stand behind it
sized_front : (n k : ℕ) (text based : List ℕ) → n ≡ length (take_while is_in_decimal text) → drop n text ≡ 39 ∷ based → ((other after : List ℕ) → based ≡ other ++ after → is_based other ≡ true → length other ≤ k)
    → (y : ℕ) (ys after : List ℕ) → text ≡ (y ∷ ys) ++ after → is_sized (y ∷ ys) ≡ true → length (y ∷ ys) ≤ n + 1 + k
sized_front n k text based r q longest y ys after e s =
    let p = sized_parts (y ∷ ys) s in
    let b = quote_behind n text p.0 p.1 after r (e ∙ ap (λ z. z ++ after) p.2) p.3 in
    let rest : based ≡ p.1 ++ after = cc (b.1, q) in
    omega (arith, ap length p.2, length-append p.0 (39 ∷ p.1), b.0, longest p.1 after rest p.4)

sized_bound : (n k : ℕ) (text based : List ℕ) → begins is_ascii_digit text ≡ true → begins_hexadecimal text ≡ false → n ≡ length (take_while is_in_decimal text) → drop n text ≡ 39 ∷ based
    → ((other after : List ℕ) → based ≡ other ++ after → is_based other ≡ true → length other ≤ k) → IsBound (n + 1 + k) text
sized_bound n k text based h x r q longest [] after e w = omega arith
sized_bound n k text based h x r q longest (y ∷ ys) after e w =
    elim (front_cases y ys (subst (λ z. begins is_ascii_digit z ≡ true) e h) w) [
      | inl d ↦ omega (arith, r, run_longest is_in_decimal text (y ∷ ys) after e (decimal_passes (y ∷ ys) d))
      | inr p ↦ elim p [
        | inl d ↦ absurd (no_hexadecimal_front text (y ∷ ys) after x e d)
        | inr s ↦ sized_front n k text based r q longest y ys after e s
      ]
    ]

sized_value_is : (size based : List ℕ) → is_decimal size ≡ true → value_of_size (digits_value 10 (digits_of (before_first is_quote (size ++ (39 ∷ based))))) (after_first is_quote (size ++ (39 ∷ based))) ≡ value_of_size (digits_value 10 (digits_of size)) based
sized_value_is size based h = let d = decimal_passes size h in rw (before_digits size based d, after_digits size based d) refl

sized_means_at : (b : ℕ) (ds based : List ℕ) → is_ascii_digit b ≡ true → is_decimal (b ∷ ds) ≡ true → is_hexadecimal (b ∷ (ds ++ (39 ∷ based))) ≡ false → is_based based ≡ true
    → meaning_of systemrdl ((b ∷ ds) ++ (39 ∷ based)) ≡ number ((b ∷ ds) ++ (39 ∷ based)) (value_of_size (digits_value 10 (digits_of (b ∷ ds))) based)
sized_means_at b ds based h d x e = sized_means b (ds ++ (39 ∷ based)) h (not_decimal (b ∷ ds) based) x (sized_form (b ∷ ds) based d e) ∙ ap (number ((b ∷ ds) ++ (39 ∷ based))) (sized_value_is (b ∷ ds) based d)

sized_has_form : (b : ℕ) (ds based : List ℕ) → is_ascii_digit b ≡ true → is_decimal (b ∷ ds) ≡ true → is_based based ≡ true → has_form systemrdl ((b ∷ ds) ++ (39 ∷ based)) ≡ true
sized_has_form b ds based h d e = form_of_digit b (ds ++ (39 ∷ based)) h ∙ (ap (λ t. is_decimal (b ∷ (ds ++ (39 ∷ based))) || (is_hexadecimal (b ∷ (ds ++ (39 ∷ based))) || t)) (sized_form (b ∷ ds) based d e) ∙ or_true _ _)
  where
    or_true : (s t : Bool) → (s || (t || true)) ≡ true
    or_true true t = refl
    or_true false true = refl
    or_true false false = refl

pub sized_number : (n k : ℕ) (text : List ℕ) (value : Option ℕ) → begins_separator true text ≡ false → begins is_ascii_digit text ≡ true → begins_hexadecimal text ≡ false → n ≡ length (take_while is_in_decimal text)
    → (n ≡ length text → ⊥) → get_or text n 0 ≡ 39 → k ≤ length (take (length text - (n + 1)) (drop (n + 1) text)) → is_based (take k (take (length text - (n + 1)) (drop (n + 1) text))) ≡ true
    → ((other after : List ℕ) → take (length text - (n + 1)) (drop (n + 1) text) ≡ other ++ after → is_based other ≡ true → length other ≤ k)
    → value ≡ value_of_size (digits_value 10 (digits_of (take n text))) (take k (take (length text - (n + 1)) (drop (n + 1) text))) → IsNumberAt text (n + 1 + k) value
sized_number n k [] value bare h x r ne q fits based longest v = cc
sized_number n k (b ∷ bs) value bare h x r ne q fits based longest v =
    let text = b ∷ bs in
    let tail = drop (n + 1) text in
    let same = rest_is (n + 1) text in
    let lt : n < length text = omega (arith, run_fits n text r) in
    let one : suc n ≡ n + 1 = omega arith in
    let behind : drop n text ≡ 39 ∷ tail = drop-cons text n 0 lt ∙ (ap (λ z. z ∷ drop (suc n) text) q ∙ ap (λ z. 39 ∷ drop z text) one) in
    let taken = decimal_taken n b bs h r in
    let ds = take_while is_in_decimal bs in
    let decimal : is_decimal (b ∷ ds) ≡ true = rw h (run_passes is_in_decimal bs) in
    let front = take k tail in
    let tail_based : is_based front ≡ true = rw same at based in
    let tail_fits : k ≤ length tail = rw same at fits in
    let size_len : length (b ∷ ds) ≡ n = omega (arith, ap length (sym taken), length-take n text, lt) in
    let word = (b ∷ ds) ++ (39 ∷ front) in
    let word_len : length word ≡ n + 1 + k = omega (arith, length-append (b ∷ ds) (39 ∷ front), size_len, length-take k tail, tail_fits) in
    let whole : text ≡ word ++ drop k tail = sym (take-append-drop n text) ∙ (ap (λ z. z ++ drop n text) taken ∙ (ap (λ z. (b ∷ ds) ++ z) (behind ∙ ap (λ z. 39 ∷ z) (sym (take-append-drop k tail))) ∙ sym (append_assoc (b ∷ ds) (39 ∷ front) (drop k tail)))) in
    let word_taken : take (n + 1 + k) text ≡ word = ap (take (n + 1 + k)) whole ∙ take_at word (drop k tail) (n + 1 + k) word_len in
    let not_hex : is_hexadecimal word ≡ false = refute _ (no_hexadecimal_front text word (drop k tail) x whole) in
    let all : n + 1 + k ≤ length text = omega (arith, ap length whole, length-append word (drop k tail), word_len) in
    record {
      within = all;
      next = next_by (n + 1 + k) text all bare (rw word_taken (sized_has_form b ds front h decimal tail_based))
          (sized_bound n k text tail h x r behind (λ other after e i. longest other after (same ∙ e) i));
      means = rw (v, same, taken, word_taken) (sized_means_at b ds front h decimal not_hex tail_based);
      no_perl = rw word_taken (digit_no_perl b (ds ++ (39 ∷ front)) h);
    }

-- a number without a value
pub number_breaks : (n : ℕ) (text : List ℕ) (value : Option ℕ) → IsNumberAt text n value → value ≡ None → Breaks text L4
number_breaks n text value h e = record {
  wrong = NoMeaning (take n text);
  stands = no_meaning (take n text) (drop n text) h.next (h.means ∙ ap (number (take n text)) e);
  named = rw h.no_perl refl;
}
