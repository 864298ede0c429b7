-- Counts of what stands at two places.
use Rattle.std.proofs.Common.{◌≡◌, ◌∙◌, ⊎_elim, ℕ, zero, suc, ◌+◌, ◌≤◌, Bool, true, false, cond, count_by, nat_lt, List, [], ◌∷◌, flat_map, slice_get, Some, refl, ap, arith}
use Rattle.std.proofs.lemmas.Bool.Decides.{nat_tests}
use Rattle.plain_lemmas.proofs.Numbers.{same_or_other}
use Rattle.plain_lemmas.proofs.Lists.{count_by-append as count-append, count_by-cons as count-cons}

pub one-at : {X : Type 0} (p : X → Bool) (xs : List X) (k : ℕ) (x : X) → slice_get xs k ≡ Some x → p x ≡ true → 1 ≤ count_by p xs
one-at p [] k x e t = cc e
one-at p (y ∷ ys) zero x e t =
    let same : y ≡ x = cc e in
    let here : ◌≡◌ {A = ℕ} (cond (p y) 1 0) 1 = ap (λ b. cond {A = ℕ} b 1 0) (ap p same ∙ t) in
    omega (arith, count-cons p y ys, here)
one-at p (y ∷ ys) (suc k) x e t = omega (arith, count-cons p y ys, one-at p ys k x e t)

two-at : {X : Type 0} (p : X → Bool) (xs : List X) (j k : ℕ) (x y : X) → slice_get xs j ≡ Some x → slice_get xs k ≡ Some y → p x ≡ true → p y ≡ true → (j ≡ k → ⊥) → 2 ≤ count_by p xs
two-at p [] j k x y e f t u apart = cc e
two-at p (z ∷ zs) zero zero x y e f t u apart = absurd (apart refl)
two-at p (z ∷ zs) zero (suc k) x y e f t u apart =
    let same : z ≡ x = cc e in
    let here : ◌≡◌ {A = ℕ} (cond (p z) 1 0) 1 = ap (λ b. cond {A = ℕ} b 1 0) (ap p same ∙ t) in
    omega (arith, count-cons p z zs, here, one-at p zs k y f u)
two-at p (z ∷ zs) (suc j) zero x y e f t u apart =
    let same : z ≡ y = cc f in
    let here : ◌≡◌ {A = ℕ} (cond (p z) 1 0) 1 = ap (λ b. cond {A = ℕ} b 1 0) (ap p same ∙ u) in
    omega (arith, count-cons p z zs, here, one-at p zs j x e t)
two-at p (z ∷ zs) (suc j) (suc k) x y e f t u apart = omega (arith, count-cons p z zs, two-at p zs j k x y e f t u (λ q. apart (ap suc q)))

-- what is counted once stands at one place
pub only-at : {X : Type 0} (p : X → Bool) (xs : List X) (j k : ℕ) (x y : X) → count_by p xs ≤ 1 → slice_get xs j ≡ Some x → slice_get xs k ≡ Some y → p x ≡ true → p y ≡ true → j ≡ k
only-at p xs j k x y few e f t u = ⊎_elim (λ s. s.0) (λ o. absurd (let two = two-at p xs j k x y e f t u o.0 in omega (arith, two, few))) (same_or_other j k)

-- and in one part
count-part : {X Y : Type 0} (p : Y → Bool) (f : X → List Y) (xs : List X) (k : ℕ) (x : X) → slice_get xs k ≡ Some x → count_by p (f x) ≤ count_by p (flat_map f xs)
count-part p f [] k x e = cc e
count-part p f (y ∷ ys) zero x e =
    let same : y ≡ x = cc e in
    let here : count_by p (f y) ≡ count_by p (f x) = ap (λ z. count_by p (f z)) same in
    omega (arith, count-append p (f y) (flat_map f ys), here)
count-part p f (y ∷ ys) (suc k) x e = omega (arith, count-append p (f y) (flat_map f ys), count-part p f ys k x e)

count-two_parts : {X Y : Type 0} (p : Y → Bool) (f : X → List Y) (xs : List X) (j k : ℕ) (x y : X) → slice_get xs j ≡ Some x → slice_get xs k ≡ Some y → (j ≡ k → ⊥)
    → count_by p (f x) + count_by p (f y) ≤ count_by p (flat_map f xs)
count-two_parts p f [] j k x y e g apart = cc e
count-two_parts p f (z ∷ zs) zero zero x y e g apart = absurd (apart refl)
count-two_parts p f (z ∷ zs) zero (suc k) x y e g apart =
    let same : z ≡ x = cc e in
    let here : count_by p (f z) ≡ count_by p (f x) = ap (λ w. count_by p (f w)) same in
    omega (arith, count-append p (f z) (flat_map f zs), here, count-part p f zs k y g)
count-two_parts p f (z ∷ zs) (suc j) zero x y e g apart =
    let same : z ≡ y = cc g in
    let here : count_by p (f z) ≡ count_by p (f y) = ap (λ w. count_by p (f w)) same in
    omega (arith, count-append p (f z) (flat_map f zs), here, count-part p f zs j x e)
count-two_parts p f (z ∷ zs) (suc j) (suc k) x y e g apart = omega (arith, count-append p (f z) (flat_map f zs), count-two_parts p f zs j k x y e g (λ q. apart (ap suc q)))

pub only-part : {X Y : Type 0} (p : Y → Bool) (f : X → List Y) (xs : List X) (j k : ℕ) (x y : X) → count_by p (flat_map f xs) ≤ 1 → slice_get xs j ≡ Some x → slice_get xs k ≡ Some y
    → 1 ≤ count_by p (f x) → 1 ≤ count_by p (f y) → j ≡ k
only-part p f xs j k x y few e g a b = ⊎_elim (λ s. s.0) (λ o. absurd (let two = count-two_parts p f xs j k x y e g o.0 in omega (arith, two, few, a, b))) (same_or_other j k)

pub within-part : {X Y : Type 0} (p : Y → Bool) (f : X → List Y) (xs : List X) (k : ℕ) (x : X) → count_by p (flat_map f xs) ≤ 1 → slice_get xs k ≡ Some x → count_by p (f x) ≤ 1
within-part p f xs k x few e = omega (arith, few, count-part p f xs k x e)

pub few : (n : ℕ) → nat_lt 1 n ≡ false → n ≤ 1
few n e = grind (arith, nat_tests)
