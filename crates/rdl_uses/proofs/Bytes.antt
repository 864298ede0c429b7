-- The length of a path's text with one more step.
use Rattle.std.proofs.Common.{◌≡◌, ◌∙◌, ℕ, ◌+◌, ◌<◌, ◌≤◌, ◌/◌, ◌^◌, Bool, true, false, nat_lt, List, [], ◌∷◌, ◌++◌, length, map, decimal, Option, None, Some, is_none, MatchOption, refl, sym, arith}
use Rattle.std.specs.List.{join_with_byte}
use Rattle.std.proofs.lemmas.Bool.{lt-ltb, ltb-true}
use Rattle.std.proofs.lemmas.Fmt.{decimal_nonempty, length-decimal-le}
use Rattle.std.proofs.lemmas.List.{length-append}
use Rattle.plain_lemmas.proofs.Numbers.{decimal-longer as more_digits, decimal-one as one_digit}
use Rattle.rdl_values.specs.Paths.{joined}

-- the bytes of some indices, each behind a `$`
abbrev pub index_bytes : List ℕ → ℕ
index_bytes [] = 0
index_bytes (i ∷ is) = 1 + length (decimal i) + index_bytes is

words_bytes : (first : List ℕ) (is : List ℕ) → length (join_with_byte 36 (first ∷ map decimal is ++ [])) ≡ length first + index_bytes is
words_bytes first [] = omega arith
words_bytes first (i ∷ is) =
    let rest = words_bytes (decimal i) is in
    length-append first (36 ∷ join_with_byte 36 (decimal i ∷ map decimal is ++ [])) ∙ omega (arith, rest)

pub step_bytes : (name is : List ℕ) → length (joined (record { name = name; index = is } ∷ [])) ≡ length name + index_bytes is
step_bytes name is = words_bytes name is

-- the digits that are left and those that are counted
pub counted_more : (len left number : ℕ) → 10 ≤ left → left < 2 ^ 64 → len + length (decimal left) ≡ length (decimal number) + 1 → (len + 1) + length (decimal (left / 10)) ≡ length (decimal number) + 1
counted_more len left number l b h = let m = more_digits left l b in omega (arith, m, h)

pub counted_all : (len left number : ℕ) → left < 10 → len + length (decimal left) ≡ length (decimal number) + 1 → len ≡ length (decimal number)
counted_all len left number l h = let m = one_digit left l in omega (arith, m, h)

pub few : (len left number : ℕ) → left < 2 ^ 64 → number < 2 ^ 64 → len + length (decimal left) ≡ length (decimal number) + 1 → len ≤ 20
few len left number l b h =
    let some = decimal_nonempty left l in
    let most = length-decimal-le 20 number lit below b in
    omega (arith, some, most, h)
  where
    lit : 0 < 20
    lit = omega arith

    below : number < 10 ^ 20
    below = omega (arith, b)

pub none_is : (r : Option ℕ) (len : ℕ) → MatchOption r (900 < len) (λ n. (n ≡ len) × (n ≤ 900)) → is_none r ≡ nat_lt 900 len
none_is None len h = sym (lt-ltb 900 len h)
none_is (Some n) len h = go (nat_lt 900 len) refl
  where
    go : (b : Bool) → nat_lt 900 len ≡ b → false ≡ nat_lt 900 len
    go false e = sym e
    go true e = let l : 900 < len = ltb-true 900 len e in absurd (omega (arith, h.0, h.1, l))
