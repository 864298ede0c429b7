-- Cells at the beginning of a text.
use Rattle.std.proofs.Common.{◌≡◌, ℕ, zero, suc, ◌+◌, ◌-◌, ◌<◌, ◌≤◌, Bool, true, false, if◌then◌else◌, ◌==◌, ◌&&◌, nat_lt, nat_eq, Option, Some, None, List, [], ◌∷◌, ◌++◌, length, take, drop, get_or, codes, refl, ap, sym, subst, ◌∙◌, arith}
use Rattle.std.specs.Char.{is_digit, digit_value}
use Rattle.std.specs.List.{AllByRecursion, list_all, starts_with}
use Rattle.std.specs.Str.Parse.{digits_value}
use Rattle.std.proofs.Math.Seq.{drop-cons}
use Rattle.std.proofs.lemmas.Bool.Decides.{nat_tests}
use Rattle.std.proofs.lemmas.List.{take_all, length-drop, take-append-drop, drop-drop, get_or-drop}
use Rattle.stim_csv.specs.Numeral.{cell_value, numeral_value, fits}
use Rattle.stim_csv.specs.Plain.{is_plain, Leads, IsCellAhead, IsCellBefore}

-- all that stands past a place
pub past : (text : List ℕ) (n : ℕ) → take (length text - n) (drop n text) ≡ drop n text
past text n = take_all (length text - n) (drop n text) (omega (arith, length-drop n text))

equal : (a b : ℕ) → (a == b) ≡ true → a ≡ b
equal a b h = grind (arith, nat_tests)

beyond : (radix : ℕ) → radix ≤ 16 → nat_lt 36 radix ≡ false
beyond radix l = grind (arith, nat_tests)

-- a digit is none of the bytes that mean something between cells
unlike : (radix b v : ℕ) → radix ≤ 16 → digit_value v ≡ 36 → is_digit b radix ≡ true → (b == v) ≡ false
unlike radix b v l none h = go (b == v) refl
  where
    go : (t : Bool) → (b == v) ≡ t → t ≡ false
    go false e = refl
    go true e =
        let no : nat_lt 36 radix ≡ true = ap (λ d. nat_lt d radix) (sym none ∙ ap digit_value (sym (equal b v e))) ∙ h in
        sym no ∙ beyond radix l

plain_digit : (radix b : ℕ) → radix ≤ 16 → is_digit b radix ≡ true → is_plain b ≡ true
plain_digit radix b l h = rw (unlike radix b 44 l refl h, unlike radix b 34 l refl h, unlike radix b 13 l refl h, unlike radix b 10 l refl h) refl

and_first : (a b : Bool) → (a && b) ≡ true → a ≡ true
and_first true b h = refl
and_first false b h = h

and_second : (a b : Bool) → (a && b) ≡ true → b ≡ true
and_second true b h = h
and_second false b h = cc h

plain_digits : (radix : ℕ) (xs : List ℕ) → radix ≤ 16 → list_all (λ b. is_digit b radix) xs ≡ true → AllByRecursion (λ c. is_plain c ≡ true) xs
plain_digits radix [] l h = tt
plain_digits radix (x ∷ xs) l h = (plain_digit radix x l (and_first _ _ h), plain_digits radix xs l (and_second (is_digit x radix) _ h))

all_digits : (radix : ℕ) (xs : List ℕ) (n : ℕ) → numeral_value radix xs ≡ Some n → list_all (λ b. is_digit b radix) xs ≡ true
all_digits radix xs n h = and_second (nat_lt 0 (length xs)) (list_all (λ b. is_digit b radix) xs) (go (nat_lt 0 (length xs) && list_all (λ b. is_digit b radix) xs) h)
  where
    go : (t : Bool) → (if t then Some (digits_value radix xs) else None) ≡ Some n → t ≡ true
    go true h = refl
    go false h = cc h

not_both : (a : Bool) → (a && false) ≡ false
not_both true = refl
not_both false = refl

-- what doesn't begin with 0x doesn't where it is cut off
cut_off : (text : List ℕ) (k : ℕ) → starts_with nat_eq text (codes "0x") ≡ false → starts_with nat_eq (take k text) (codes "0x") ≡ false
cut_off [] zero h = refl
cut_off [] (suc k) h = refl
cut_off (a ∷ text) zero h = refl
cut_off (a ∷ []) (suc zero) h = h
cut_off (a ∷ []) (suc (suc k)) h = h
cut_off (a ∷ b ∷ text) (suc zero) h = not_both (nat_eq 48 a)
cut_off (a ∷ b ∷ text) (suc (suc k)) h = h

decimal_value : (text : List ℕ) (o : Option ℕ) → starts_with nat_eq text (codes "0x") ≡ false → numeral_value 10 text ≡ o → cell_value text ≡ o
unfolding cell_value
decimal_value text o h e = rw h e

hexadecimal_value : (text : List ℕ) (o : Option ℕ) → starts_with nat_eq text (codes "0x") ≡ true → numeral_value 16 (drop 2 text) ≡ o → cell_value text ≡ o
unfolding cell_value
hexadecimal_value text o h e = rw h e

pub decimal : (text : List ℕ) (n k : ℕ) → starts_with nat_eq text (codes "0x") ≡ false → Leads 10 text n k → IsCellAhead text n k
decimal text n k h lead = record {
  within = lead.within;
  value = decimal_value (take k text) (Some n) (cut_off text k h) lead.value;
  plain = plain_digits 10 (take k text) (omega arith) (all_digits 10 (take k text) n lead.value);
}

plain_prefix : (a b : ℕ) → (nat_eq 48 a && (nat_eq 120 b && true)) ≡ true → (is_plain a ≡ true) × (is_plain b ≡ true)
plain_prefix a b h =
    let first : 48 ≡ a = equal 48 a (and_first (nat_eq 48 a) _ h) in
    let second : 120 ≡ b = equal 120 b (and_first (nat_eq 120 b) _ (and_second (nat_eq 48 a) _ h)) in
    (subst (λ c. is_plain c ≡ true) first refl, subst (λ c. is_plain c ≡ true) second refl)

pub hexadecimal : (text : List ℕ) (n k : ℕ) → starts_with nat_eq text (codes "0x") ≡ true → Leads 16 (drop 2 text) n k → IsCellAhead text n (k + 2)
hexadecimal [] n k h lead = absurd (let no : false ≡ true = h in cc)
hexadecimal (a ∷ []) n k h lead = absurd (let no : false ≡ true = sym (not_both (nat_eq 48 a)) ∙ h in cc)
hexadecimal (a ∷ b ∷ text) n k h lead =
    let two : suc (suc k) ≡ k + 2 = omega arith in
    let marks = plain_prefix a b h in
    let digits = plain_digits 16 (take k text) (omega arith) (all_digits 16 (take k text) n lead.value) in
    record {
      within = omega (arith, lead.within);
      value = subst (λ m. cell_value (take m (a ∷ b ∷ text)) ≡ Some n) two (hexadecimal_value (a ∷ b ∷ take k text) (Some n) h lead.value);
      plain = subst (λ m. AllByRecursion (λ c. is_plain c ≡ true) (take m (a ∷ b ∷ text))) two (marks.0, (marks.1, digits));
    }

-- a cell at a place, and the byte behind it
pub before : (text : List ℕ) (at n k separator width : ℕ) → at ≤ length text → IsCellAhead (drop at text) n k → get_or text (at + k) 0 ≡ separator → fits width n ≡ true
    → IsCellBefore separator width (drop at text) (drop (at + k + 1) text) n
before text at n k separator width low cell is fit =
    let long = length-drop at text in
    let inside : at + k < length text = omega (arith, long, cell.within, low) in
    let next : suc (at + k) ≡ at + k + 1 = omega arith in
    record {
      cell = take k (drop at text);
      text_is = sym (take-append-drop k (drop at text))
          ∙ ap (λ r. take k (drop at text) ++ r) (drop-drop k at text ∙ (drop-cons text (at + k) 0 inside ∙ (λ i. is i ∷ drop (next i) text)));
      value = cell.value;
      fitting = fit;
      plain = cell.plain;
    }

pub before_within : (text : List ℕ) (at n k : ℕ) → at ≤ length text → IsCellAhead (drop at text) n k → at + k < length text
before_within text at n k low cell = omega (arith, length-drop at text, cell.within, low)

one_value : (text : List ℕ) → 2 < length text → is_digit (get_or text 2 0) 16 ≡ true → numeral_value 16 (take 1 (drop 2 text)) ≡ Some (digit_value (get_or text 2 0))
one_value text low digit = ap (λ r. numeral_value 16 (take 1 r)) (drop-cons text 2 0 low) ∙ rw digit (ap Some (plain_sum (digit_value (get_or text 2 0))))
  where
    plain_sum : (d : ℕ) → 0 + d ≡ d
    plain_sum d = omega arith

marked : (text : List ℕ) → 3 < length text → get_or text 0 0 ≡ 48 → get_or text 1 0 ≡ 120 → starts_with nat_eq text (codes "0x") ≡ true
marked [] low a b = absurd (omega (arith, low))
marked (x ∷ []) low a b = absurd (omega (arith, low))
marked (x ∷ y ∷ text) low a b = rw (a, b) refl

-- a cell of one hexadecimal digit
pub one : (text : List ℕ) (n : ℕ) → 3 < length text → get_or text 0 0 ≡ 48 → get_or text 1 0 ≡ 120 → is_digit (get_or text 2 0) 16 ≡ true → n ≡ digit_value (get_or text 2 0) → IsCellAhead text n 3
one text n low a b digit is =
    hexadecimal text n 1 (marked text low a b) (record { within = omega (arith, low, length-drop 2 text); value = one_value text (omega (arith, low)) digit ∙ ap Some (sym is) })

-- a cell of one hexadecimal digit at a place, and the byte behind it
pub one_before : (text : List ℕ) (at n separator width : ℕ) → at + 4 ≤ length text → get_or text at 0 ≡ 48 → get_or text (at + 1) 0 ≡ 120 → get_or text (at + 3) 0 ≡ separator
    → is_digit (get_or text (at + 2) 0) 16 ≡ true → n ≡ digit_value (get_or text (at + 2) 0) → fits width n ≡ true → IsCellBefore separator width (drop at text) (drop (at + 4) text) n
one_before text at n separator width low a b end digit is fit =
    let next : at + 3 + 1 ≡ at + 4 = omega arith in
    let none : at + 0 ≡ at = omega arith in
    let there : (i : ℕ) → get_or (drop at text) i 0 ≡ get_or text (at + i) 0 = λ i. get_or-drop at text i 0 in
    let cell = one (drop at text) n (omega (arith, low, length-drop at text)) (there 0 ∙ (ap (λ k. get_or text k 0) none ∙ a)) (there 1 ∙ b) (ap (λ d. is_digit d 16) (there 2) ∙ digit) (is ∙ ap digit_value (sym (there 2))) in
    subst (λ m. IsCellBefore separator width (drop at text) (drop m text) n) next (before text at n 3 separator width (omega (arith, low)) cell end fit)
