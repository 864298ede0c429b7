-- How long the texts of indices are.
use Rattle.std.proofs.Common.{◌≡◌, ◌∙◌, ℕ, zero, suc, ◌+◌, ◌-◌, ◌/◌, ◌<◌, ◌≤◌, ◌^◌, Bool, true, false, nat_lt, List, [], ◌∷◌, ◌++◌, length, map, decimal, refl, arith}
use Rattle.std.specs.List.{join_with_byte}
use Rattle.std.proofs.lemmas.Bool.{ltb-true, ltb-false}
use Rattle.std.proofs.lemmas.Fmt.{decimal_nonempty}
use Rattle.std.proofs.lemmas.List.{length-append}
use Rattle.plain_lemmas.proofs.Numbers.{decimal-longer as more_digits, decimal-one as one_digit}
use Rattle.rdl_values.specs.Paths.{joined}

-- the bytes of some indices, each behind a `$`
abbrev pub index_bytes : List ℕ → ℕ
index_bytes [] = 0
index_bytes (i ∷ is) = 1 + length (decimal i) + index_bytes is

words_bytes : (first : List ℕ) (is : List ℕ) → length (join_with_byte 36 (first ∷ map decimal is ++ [])) ≡ length first + index_bytes is
words_bytes first [] = omega arith
words_bytes first (i ∷ is) =
    let others = words_bytes (decimal i) is in
    length-append first (36 ∷ join_with_byte 36 (decimal i ∷ map decimal is ++ [])) ∙ omega (arith, others)

pub step_bytes : (name is : List ℕ) → length (joined (record { name = name; index = is } ∷ [])) ≡ length name + index_bytes is
step_bytes name is = words_bytes name is

-- a number has no more digits than a greater one

tens-rise : (m n : ℕ) → (n < 2 ^ 64) → m ≤ n → 10 ≤ m → length (decimal (m / 10)) ≤ length (decimal (n / 10)) → length (decimal m) ≤ length (decimal n)
tens-rise m n b l h rise =
    let bm : m < 2 ^ 64 = omega (arith, l, b) in
    let hn : 10 ≤ n = omega (arith, l, h) in
    let em = more_digits m h bm in
    let en = more_digits n hn b in
    omega (arith, em, en, rise)

digits-rise : (m n : ℕ) → n < 2 ^ 64 → m ≤ n → (10 ≤ m → length (decimal (m / 10)) ≤ length (decimal (n / 10))) → length (decimal m) ≤ length (decimal n)
digits-rise m n b l rise = go (nat_lt m 10) refl
  where
    go : (t : Bool) → nat_lt m 10 ≡ t → length (decimal m) ≤ length (decimal n)
    go true e = let em = one_digit m (ltb-true m 10 e) in let some = decimal_nonempty n b in omega (arith, em, some)
    go false e = let h = ltb-false m 10 e in tens-rise m n b l h (rise h)

pub digits_rise : (fuel m n : ℕ) → n < fuel → m ≤ n → n < 2 ^ 64 → length (decimal m) ≤ length (decimal n)
digits_rise zero m n f l b = absurd (omega (arith, f))
digits_rise (suc fuel) m n f l b = digits-rise m n b l λ h.
    let small : n / 10 < fuel = omega (arith, f, l, h) in
    let quotients : m / 10 ≤ n / 10 = omega (arith, l) in
    let below : n / 10 < 2 ^ 64 = omega (arith, b) in
    digits_rise fuel (m / 10) (n / 10) small quotients below

pub bytes_push : (is : List ℕ) (i : ℕ) → index_bytes (is ++ (i ∷ [])) ≡ index_bytes is + 1 + length (decimal i)
bytes_push [] i = omega arith
bytes_push (x ∷ is) i = let others = bytes_push is i in omega (arith, others)

-- one index more, which is below its dimension
pub bytes_more : (index lasts : List ℕ) (i dim : ℕ) → i < dim → dim < 2 ^ 64 → index_bytes index ≤ index_bytes lasts → index_bytes (index ++ (i ∷ [])) ≤ index_bytes (lasts ++ ((dim - 1) ∷ []))
bytes_more index lasts i dim l b h =
    let a = bytes_push index i in
    let c = bytes_push lasts (dim - 1) in
    let least : i ≤ dim - 1 = omega (arith, l) in
    let most : dim - 1 < 2 ^ 64 = omega (arith, b) in
    let rise = digits_rise (suc (dim - 1)) i (dim - 1) (omega arith) least most in
    omega (arith, a, c, h, rise)

pub step_short : (name index lasts : List ℕ) → index_bytes index ≤ index_bytes lasts → length (joined (record { name = name; index = index } ∷ [])) ≤ length (joined (record { name = name; index = lasts } ∷ []))
step_short name index lasts h =
    let a = step_bytes name index in
    let c = step_bytes name lasts in
    omega (arith, a, c, h)
