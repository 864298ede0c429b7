-- Codes, from the first digit to the last.
use Rattle.std.proofs.Common.{zero, suc, ◌≡◌, ℕ, ◌+◌, ◌*◌, ◌/◌, ◌%◌, ◌^◌, ◌<◌, ◌≤◌, Bool, true, false, cond, nat_lt, List, [], ◌∷◌, ◌++◌, length, take, set, refl, ap, sym, ◌∙◌, arith, append_assoc}
use Rattle.std.proofs.lemmas.Bool.Decides.{nat_tests}
use Rattle.std.proofs.lemmas.Nat.{pow-add}
use Rattle.std.proofs.Math.Seq.{take-suc-set}
use Rattle.vcd_syntax.specs.Dump.{code_within, code}

more : (left : ℕ) → 94 ≤ left → nat_lt left 94 ≡ false
more left p = grind (arith, nat_tests)

less : (left : ℕ) → left < 94 → nat_lt left 94 ≡ true
less left p = grind (arith, nat_tests)

pub enough : (room left : ℕ) → 94 ≤ left → left < 94 ^ room → 2 ≤ room
enough zero left p q = absurd (omega arith)
enough (suc zero) left p q = absurd (omega arith)
enough (suc (suc n)) left p q = omega arith

pub less_left : (room left : ℕ) → left < 94 ^ suc room → left / 94 < 94 ^ room
less_left room left q = let f : 94 ^ (1 + room) ≡ 94 * 94 ^ room = pow-add 94 1 room in let e : 1 + room ≡ suc room = omega arith in let g : 94 ^ suc room ≡ 94 * 94 ^ room = ap (λ n. 94 ^ n) (sym e) ∙ f in omega arith

-- Room for all digits is enough.
one_digit : (n m k : ℕ) → k < 94 → code_within (suc n) k ≡ code_within (suc m) k
one_digit n m k l =
    ap (λ b. (33 + k % 94) ∷ cond b [] (code_within n (k / 94))) (less k l) ∙ ap (λ b. (33 + k % 94) ∷ cond b [] (code_within m (k / 94))) (sym (less k l))

all_digits : (n m k : ℕ) → k < 94 ^ suc n → k ≤ m → code_within (suc n) k ≡ code_within (suc m) k
all_digits zero m k p q = one_digit 0 m k (omega (arith, p))
all_digits (suc n) zero k p q = one_digit (suc n) 0 k (omega (arith, q))
all_digits (suc n) (suc m) k p q = at (nat_lt k 94) refl (λ l. all_digits n m (k / 94) (less_left (suc n) k p) (omega (arith, q, l)))
  where
    at : (b : Bool) → nat_lt k 94 ≡ b → (94 ≤ k → code_within (suc n) (k / 94) ≡ code_within (suc m) (k / 94))
        → (33 + k % 94) ∷ cond b [] (code_within (suc n) (k / 94)) ≡ (33 + k % 94) ∷ cond b [] (code_within (suc m) (k / 94))
    at true e ih = refl
    at false e ih = let le : 94 ≤ k = grind (arith, nat_tests) in ap (λ z. (33 + k % 94) ∷ z) (ih le)

pub code_is : (k : ℕ) → k < 94 ^ 10 → code_within 10 k ≡ code k
unfolding code
code_is k l = all_digits 9 k k l (omega arith)

module _ (len room left : ℕ) (bs : List ℕ) where
  pub step : len < length bs → 94 ≤ left → (d : ℕ) → d ≡ 33 + left % 94 → take (suc len) (set bs len d) ++ code_within room (left / 94) ≡ take len bs ++ code_within (suc room) left
  step w p d e =
      ap (λ z. z ++ code_within room (left / 94)) (take-suc-set bs len d w)
      ∙ (append_assoc (take len bs) (d ∷ []) (code_within room (left / 94))
      ∙ ap (λ z. take len bs ++ z) (ap (λ z. z ∷ code_within room (left / 94)) e ∙ ap (λ (b : Bool). (33 + left % 94) ∷ cond b [] (code_within room (left / 94))) (sym (more left p))))

  pub last : len < length bs → left < 94 → (d : ℕ) → d ≡ 33 + left → take (suc len) (set bs len d) ≡ take len bs ++ code_within (suc room) left
  last w p d e =
      let same : left % 94 ≡ left = omega arith in
      take-suc-set bs len d w
      ∙ ap (λ z. take len bs ++ z) (ap (λ z. z ∷ []) (e ∙ ap (λ z. 33 + z) (sym same)) ∙ ap (λ (b : Bool). (33 + left % 94) ∷ cond b [] (code_within room (left / 94))) (sym (less left p)))
