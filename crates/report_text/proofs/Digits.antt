-- Hexadecimal digits, from the first to the last.
use Rattle.std.specs.Fmt.{digits, digits_onto, digit_glyph}
use Rattle.std.proofs.Common.{zero, suc, ◌≡◌, ℕ, ◌+◌, ◌-◌, ◌*◌, ◌/◌, ◌%◌, ◌^◌, ◌<◌, ◌≤◌, ◌==◌, Bool, true, false, if◌then◌else◌, List, [], ◌∷◌, ◌++◌, length, append_assoc, refl, ap, sym, ◌∙◌, arith}
use Rattle.std.proofs.lemmas.Bool.Decides.{nat_tests}
use Rattle.std.proofs.lemmas.Nat.{pow-add, pow_pos, shr-shr, shr_le}
use Rattle.std.proofs.Math.Nat.{pow-le-pow_right, div-lt_iff_lt-mul}

onto_append : (k n : ℕ) (acc bs : List ℕ) → digits_onto k 16 false n (acc ++ bs) ≡ digits_onto k 16 false n acc ++ bs
onto_append zero n acc bs = refl
onto_append (suc k) n acc bs = either (n / 16 == 0) (onto_append k (n / 16) (digit_glyph false (n % 16) ∷ acc) bs)
  where
    either : (b : Bool) → digits_onto k 16 false (n / 16) (digit_glyph false (n % 16) ∷ acc ++ bs) ≡ digits_onto k 16 false (n / 16) (digit_glyph false (n % 16) ∷ acc) ++ bs
        → (if b then digit_glyph false (n % 16) ∷ acc ++ bs else digits_onto k 16 false (n / 16) (digit_glyph false (n % 16) ∷ acc ++ bs))
        ≡ (if b then digit_glyph false (n % 16) ∷ acc else digits_onto k 16 false (n / 16) (digit_glyph false (n % 16) ∷ acc)) ++ bs
    either true ih = refl
    either false ih = ih

is_last : (n : ℕ) → n < 16 → (n / 16 == 0) ≡ true
is_last n p = grind (arith, nat_tests)

isnt_last : (n : ℕ) → 16 ≤ n → (n / 16 == 0) ≡ false
isnt_last n p = grind (arith, nat_tests)

step : (k n : ℕ) (acc : List ℕ) (b : Bool) → (n / 16 == 0) ≡ b
    → digits_onto (suc k) 16 false n acc ≡ (if b then digit_glyph false (n % 16) ∷ acc else digits_onto k 16 false (n / 16) (digit_glyph false (n % 16) ∷ acc))
step k n acc b e = ap (λ (c : Bool). if c then digit_glyph false (n % 16) ∷ acc else digits_onto k 16 false (n / 16) (digit_glyph false (n % 16) ∷ acc)) e

-- more digits than a number has change nothing
enough : (k n : ℕ) (acc : List ℕ) → n < 16 ^ suc k → digits_onto (suc (suc k)) 16 false n acc ≡ digits_onto (suc k) 16 false n acc
enough zero n acc l = step 1 n acc true (is_last n (omega arith)) ∙ sym (step 0 n acc true (is_last n (omega arith)))
enough (suc k) n acc l =
    let power = pow-add 16 1 (suc k) in
    either (n / 16 == 0) (enough k (n / 16) (digit_glyph false (n % 16) ∷ acc) (omega (arith, power, l)))
  where
    either : (b : Bool) → digits_onto (suc (suc k)) 16 false (n / 16) (digit_glyph false (n % 16) ∷ acc) ≡ digits_onto (suc k) 16 false (n / 16) (digit_glyph false (n % 16) ∷ acc)
        → (if b then digit_glyph false (n % 16) ∷ acc else digits_onto (suc (suc k)) 16 false (n / 16) (digit_glyph false (n % 16) ∷ acc))
        ≡ (if b then digit_glyph false (n % 16) ∷ acc else digits_onto (suc k) 16 false (n / 16) (digit_glyph false (n % 16) ∷ acc))
    either true ih = refl
    either false ih = ih

-- a number below 16 has one digit
pub one : (n : ℕ) → n < 16 → digits 16 false n ≡ digit_glyph false n ∷ []
unfolding digits
one n l =
    let same : n % 16 ≡ n = omega arith in
    step 63 n [] true (is_last n l) ∙ ap (λ d. digit_glyph false d ∷ []) same

-- the last digit stands behind those of the quotient
pub last_digit : (n : ℕ) → 16 ≤ n → n < 2 ^ 64 → digits 16 false n ≡ digits 16 false (n / 16) ++ digit_glyph false (n % 16) ∷ []
unfolding digits
last_digit n l h =
    step 63 n [] false (isnt_last n l)
    ∙ (sym (enough 62 (n / 16) (digit_glyph false (n % 16) ∷ []) (omega arith)) ∙ onto_append 64 (n / 16) [] (digit_glyph false (n % 16) ∷ []))

pub first_digit : (n b : ℕ) → n / 2 ^ (4 * b) < 16 → digits 16 false (n / 2 ^ (4 * b)) ≡ digit_glyph false (n / 2 ^ (4 * b)) ∷ []
first_digit n b l = one (n / 2 ^ (4 * b)) l

four_less : (b : ℕ) → 1 ≤ b → 2 ^ (4 * b) ≡ 2 ^ (4 * (b - 1)) * 16
four_less b h =
    let e : 4 * b ≡ 4 * (b - 1) + 4 = omega arith in
    ap (λ k. 2 ^ k) e ∙ pow-add 2 (4 * (b - 1)) 4

pub next_digit : (n b : ℕ) → n < 2 ^ 64 → 1 ≤ b → 2 ^ (4 * b) ≤ n
    → digits 16 false (n / 2 ^ (4 * (b - 1))) ≡ digits 16 false (n / 2 ^ (4 * b)) ++ digit_glyph false (n / 2 ^ (4 * (b - 1)) % 16) ∷ []
next_digit n b small some l =
    let four : 4 * (b - 1) + 4 ≡ 4 * b = omega arith in
    let rest : n / 2 ^ (4 * (b - 1)) / 16 ≡ n / 2 ^ (4 * b) = shr-shr n (4 * (b - 1)) 4 ∙ ap (λ k. n / 2 ^ k) four in
    let large : 16 ≤ n / 2 ^ (4 * (b - 1)) = at_least n (2 ^ (4 * (b - 1))) (pow_pos (4 * (b - 1))) (omega (arith, four_less b some, l)) in
    last_digit (n / 2 ^ (4 * (b - 1))) large (omega (arith, shr_le n (4 * (b - 1)), small)) ∙ ap (λ m. digits 16 false m ++ digit_glyph false (n / 2 ^ (4 * (b - 1)) % 16) ∷ []) rest
  where
    at_least : (n p : ℕ) → 0 < p → 16 * p ≤ n → 16 ≤ n / p
    at_least n p pos l = let is = div-lt_iff_lt-mul {k = p} {x = n} {y = 16} pos in grind (arith, is)

pub fewer : (n b : ℕ) → 1 ≤ b → 2 ^ (4 * b) ≤ n → 2 ^ (4 * (b - 1)) ≤ n
fewer n b some l = omega (arith, four_less b some, l)

-- digits behind the first of a number with j bits below its highest
pub behind_first : (n j : ℕ) → 2 ^ j ≤ n → n < 2 ^ suc j → (n / 2 ^ (4 * (j / 4)) < 16) × (2 ^ (4 * (j / 4)) ≤ n)
behind_first n j low high =
    let down : 2 ^ (4 * (j / 4)) ≤ 2 ^ j = pow-le-pow_right (omega arith) (omega arith) in
    let up : 2 ^ suc j ≤ 2 ^ (4 * (j / 4) + 4) = pow-le-pow_right (omega arith) (omega arith) in
    let is = pow-add 2 (4 * (j / 4)) 4 in
    ((div-lt_iff_lt-mul {k = 2 ^ (4 * (j / 4))} {x = n} {y = 16} (pow_pos (4 * (j / 4)))).1 (omega (arith, up, is, high)), omega (arith, down, low))

-- the text when the first digit stands
pub started : (old text text' text'' text''' ds : List ℕ) (g : ℕ) → text ≡ old → text' ≡ text ++ 48 ∷ [] → text'' ≡ text' ++ 120 ∷ [] → text''' ≡ text'' ++ g ∷ []
    → ds ≡ g ∷ [] → text''' ≡ old ++ 48 ∷ 120 ∷ ds
started old text text' text'' text''' ds g e f h i d =
    rw (i, h, f, e, d) (append_assoc (old ++ 48 ∷ []) (120 ∷ []) (g ∷ []) ∙ append_assoc old (48 ∷ []) (120 ∷ g ∷ []))

-- the text after one more digit
pub continued : (old text text' ds ds' : List ℕ) (g : ℕ) → text ≡ old ++ 48 ∷ 120 ∷ ds → text' ≡ text ++ g ∷ [] → ds' ≡ ds ++ g ∷ [] → text' ≡ old ++ 48 ∷ 120 ∷ ds'
continued old text text' ds ds' g e f d = rw (f, e, d) (append_assoc old (48 ∷ 120 ∷ ds) (g ∷ []))

onto_length : (k n : ℕ) (acc : List ℕ) → length (digits_onto k 16 false n acc) ≤ k + length acc
onto_length zero n acc = omega arith
onto_length (suc k) n acc = either (n / 16 == 0) (onto_length k (n / 16) (digit_glyph false (n % 16) ∷ acc))
  where
    either : (b : Bool) → length (digits_onto k 16 false (n / 16) (digit_glyph false (n % 16) ∷ acc)) ≤ k + length (digit_glyph false (n % 16) ∷ acc)
        → length (if b then digit_glyph false (n % 16) ∷ acc else digits_onto k 16 false (n / 16) (digit_glyph false (n % 16) ∷ acc)) ≤ suc k + length acc
    either true ih = omega arith
    either false ih = omega (arith, ih)

-- no number has more digits than these
pub few_digits : (n : ℕ) → length (digits 16 false n) ≤ 64
unfolding digits
few_digits n = let few = onto_length 64 n [] in omega (arith, few)
