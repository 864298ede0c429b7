-- Sizes, bases and digits.
use Rattle.std.specs.Char.{is_ascii_digit, digit_value}
use Rattle.std.specs.List.{list_all, take_while}
use Rattle.std.specs.Str.Parse.{digits_value}
use Rattle.std.proofs.Common.{◌≡◌, ℕ, ◌+◌, ◌-◌, ◌^◌, ◌<◌, ◌≤◌, Bool, true, false, ◌&&◌, ◌==◌, nat_lt, nat_le, cond, Some, None, List, [], ◌∷◌, ◌++◌, length, take, drop, get_or, suc, refl, subst, arith, ◌⊎◌, inl, inr, ltb-false}
use Rattle.std.proofs.Math.Bool.{and-false}
use Rattle.std.proofs.lemmas.Bool.{and_parts}
use Rattle.std.proofs.lemmas.Bool.Decides.{nat_tests}
use Rattle.plain_lemmas.proofs.Lists.{take_drop-one as behind_one}
use Rattle.rb_grammar.proofs.Scanning.{run_passes, run_longest, run_taken}
use Rattle.rdl_lexer.specs.Numbers.{underscore, is_in_decimal, is_decimal, is_in_base, is_based, base_of, digits_of, is_value, value_of, value_of_size}

-- The value of a run.

pub value_some : (bits base : ℕ) (run : List ℕ) (n : ℕ) → value_of bits base run ≡ Some n → n ≡ digits_value base (digits_of run)
unfolding value_of
value_some bits base run n e = go (is_value bits base run) e
  where
    go : (b : Bool) → cond b (Some (digits_value base (digits_of run))) None ≡ Some n → n ≡ digits_value base (digits_of run)
    go true f = cc
    go false f = cc

digit_small : (b : ℕ) → is_in_decimal b ≡ true → (b == underscore) ≡ false → nat_lt (digit_value b) 10 ≡ true
digit_small b h e = grind (arith, nat_tests)

digits_small : (run : List ℕ) → list_all is_in_decimal run ≡ true → list_all (λ b. nat_lt (digit_value b) 10) (digits_of run) ≡ true
digits_small [] h = refl
digits_small (b ∷ bs) h = let p = and_parts (is_in_decimal b) (list_all is_in_decimal bs) h in go (b == underscore) refl p.0 (digits_small bs p.1)
  where
    go : (u : Bool) → (b == underscore) ≡ u → is_in_decimal b ≡ true → list_all (λ b. nat_lt (digit_value b) 10) (digits_of bs) ≡ true → list_all (λ b. nat_lt (digit_value b) 10) (digits_of (b ∷ bs)) ≡ true
    go true e i ih = rw e ih
    go false e i ih = rw (e, digit_small b i e) ih

pub decimal_passes : (run : List ℕ) → is_decimal run ≡ true → list_all is_in_decimal run ≡ true
decimal_passes [] h = cc
decimal_passes (b ∷ bs) h = let p = and_parts (is_ascii_digit b) (list_all is_in_decimal bs) h in rw p.0 p.1

digit_counts : (run : List ℕ) → is_decimal run ≡ true → nat_lt 0 (length (digits_of run)) ≡ true
digit_counts [] h = cc
digit_counts (b ∷ bs) h =
    let p = and_parts (is_ascii_digit b) (list_all is_in_decimal bs) h in
    let e : (b == underscore) ≡ false = grind (arith, nat_tests) in
    rw e (grind (arith, nat_tests))

pub value_none : (bits : ℕ) (run : List ℕ) → is_decimal run ≡ true → value_of bits 10 run ≡ None → 2 ^ bits ≤ digits_value 10 (digits_of run)
unfolding value_of
value_none bits run h e = go (nat_lt (digits_value 10 (digits_of run)) (2 ^ bits)) refl (rw (digit_counts run h, digits_small run (decimal_passes run h)) at e)
  where
    go : (b : Bool) → nat_lt (digits_value 10 (digits_of run)) (2 ^ bits) ≡ b → cond b (Some (digits_value 10 (digits_of run))) None ≡ None → 2 ^ bits ≤ digits_value 10 (digits_of run)
    go true f k = cc
    go false f k = ltb-false _ _ f

-- Sizes.

no_size : (size : ℕ) → (size ≡ 0) ⊎ (64 < size) → (nat_le 1 size && nat_le size 64) ≡ false
no_size size (inl e) = rw e refl
no_size size (inr h) = let f : nat_le size 64 ≡ false = grind (arith, nat_tests) in rw f (and-false _)

pub bad_size : (size : ℕ) (based : List ℕ) → (size ≡ 0) ⊎ (64 < size) → None ≡ value_of_size size based
bad_size size [] h = refl
bad_size size (b ∷ run) h = rw (no_size size h) refl

pub good_size : (size base : ℕ) (based : List ℕ) → (size ≡ 0 → ⊥) → size ≤ 64 → 1 ≤ length based → Some base ≡ base_of (get_or based 0 0)
    → value_of size base (take (length based - 1) (drop 1 based)) ≡ value_of_size size based
good_size size base [] n h l e = absurd (omega arith)
good_size size base (b ∷ run) n h l e =
    let low : nat_le 1 size ≡ true = grind (arith, nat_tests) in
    let high : nat_le size 64 ≡ true = grind (arith, nat_tests) in
    rw (behind_one, low, high, ← e) refl

-- A base and digits behind a size.

pub based_passes : (n base : ℕ) (text : List ℕ) → 1 ≤ length text → Some base ≡ base_of (get_or text 0 0) → n ≡ length (take_while (is_in_base base) (take (length text - 1) (drop 1 text))) → is_based (take (1 + n) text) ≡ true
based_passes n base [] l e r = absurd (omega arith)
based_passes n base (b ∷ bs) l e r =
    let one : 1 + n ≡ suc n = omega arith in
    let run : n ≡ length (take_while (is_in_base base) bs) = rw behind_one at r in
    rw (one, ← e, run_taken (is_in_base base) n bs run) (run_passes (is_in_base base) bs)

based_run : (base b : ℕ) (bs : List ℕ) → Some base ≡ base_of b → is_based (b ∷ bs) ≡ true → list_all (is_in_base base) bs ≡ true
based_run base b bs e h = rw (← e) at h

pub based_longest : (n base : ℕ) (text : List ℕ) → 1 ≤ length text → Some base ≡ base_of (get_or text 0 0) → n ≡ length (take_while (is_in_base base) (take (length text - 1) (drop 1 text)))
    → (other after : List ℕ) → text ≡ other ++ after → is_based other ≡ true → length other ≤ 1 + n
based_longest n base [] l e r other after f h = absurd (omega arith)
based_longest n base (b ∷ bs) l e r [] after f h = omega arith
based_longest n base (b ∷ bs) l e r (y ∷ ys) after f h =
    let same : y ≡ b = cc in
    let rest : bs ≡ ys ++ after = cc in
    let run : n ≡ length (take_while (is_in_base base) bs) = rw behind_one at r in
    let passes = based_run base b ys e (subst (λ z. is_based (z ∷ ys) ≡ true) same h) in
    omega (arith, run, run_longest (is_in_base base) bs ys after rest passes)
