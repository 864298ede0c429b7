-- Codes of different numbers differ, and are printable.
use Rattle.std.specs.List.{list_all}
use Rattle.std.proofs.Common.{zero, suc, ◌≡◌, ℕ, ◌+◌, ◌-◌, ◌*◌, ◌/◌, ◌%◌, ◌<◌, ◌≤◌, Bool, true, false, cond, nat_lt, List, [], ◌∷◌, length, refl, ap, sym, ◌∙◌, arith}
use Rattle.std.proofs.lemmas.Bool.Decides.{nat_tests}
use Rattle.plain_lemmas.proofs.Bools.{and-both_true}
use Rattle.vcd_syntax.specs.Words.{is_code_byte, is_code}
use Rattle.vcd_syntax.specs.Dump.{code_within, code}

-- the number that a code stands for
abbrev number_of : List ℕ → ℕ
number_of [] = 0
number_of (b ∷ bs) = (b - 33) + 94 * number_of bs

value_at : (b : Bool) (n k : ℕ) → nat_lt k 94 ≡ b → (94 ≤ k → number_of (code_within n (k / 94)) ≡ k / 94) → number_of ((33 + k % 94) ∷ cond b [] (code_within n (k / 94))) ≡ k
value_at true n k e h = grind (arith, nat_tests)
value_at false n k e h =
    let le : 94 ≤ k = grind (arith, nat_tests) in
    let v = h le in
    omega (arith, v)

value : (n k : ℕ) → k < n → number_of (code_within n k) ≡ k
value zero k l = absurd (omega (arith, l))
value (suc n) k l = value_at (nat_lt k 94) n k refl (λ h. value n (k / 94) (omega (arith, l, h)))

code_value : (k : ℕ) → number_of (code k) ≡ k
unfolding code
code_value k = value (suc k) k (omega arith)

-- Two numbers have one code only if they are one.
pub one_code : (j k : ℕ) → code j ≡ code k → j ≡ k
one_code j k e = sym (code_value j) ∙ (ap number_of e ∙ code_value k)

byte : (k : ℕ) → is_code_byte (33 + k % 94) ≡ true
byte k = grind (arith, nat_tests)

passes : (b : Bool) (xs : List ℕ) → list_all is_code_byte xs ≡ true → list_all is_code_byte (cond b [] xs) ≡ true
passes true xs h = refl
passes false xs h = h

printable : (n k : ℕ) → list_all is_code_byte (code_within n k) ≡ true
printable zero k = refl
printable (suc n) k = and-both_true _ _ (byte k) (passes (nat_lt k 94) (code_within n (k / 94)) (printable n (k / 94)))

-- The code of a number is one.
pub code_is : (k : ℕ) → is_code (code k) ≡ true
unfolding code
code_is k =
    let n = length (cond (nat_lt k 94) [] (code_within k (k / 94))) in
    let some : nat_lt 0 (suc n) ≡ true = grind (arith, nat_tests) in
    and-both_true _ _ some (printable (suc k) k)
