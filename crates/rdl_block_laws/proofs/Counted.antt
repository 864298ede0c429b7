-- Elements that are counted, and the numbers of nodes in lists.
use Rattle.std.proofs.Common.{◌≡◌, ◌∙◌, ℕ, zero, suc, ◌+◌, ◌<◌, ◌≤◌, ◌==◌, Bool, true, false, not, cond, List, [], ◌∷◌, ◌++◌, map, length, Some, slice_get, refl, sym, ap, arith}
use Rattle.std.specs.Prelude.{count_by}
use Rattle.std.proofs.lemmas.Bool.{eq-eqb, eqb-true, ne_eqb}
use Rattle.std.proofs.lemmas.List.Sums.{sum_by-append, sum_by-cons}
use Rattle.rdl_values.specs.Instances.{Instance}
use Rattle.rdl_nodes.proofs.Apart.{Apart}
use Rattle.rdl_nodes.proofs.Paths.{Differ}
use Rattle.rdl_layers.specs.Assignments.{same_path}
use Rattle.rdl_nodes.proofs.Members.{each-in, place-in}
use Rattle.rdl_fields.proofs.Steps.{is-same-path, path-refl}
use Rattle.rdl_rules.specs.Numbers.{number_of}
use Rattle.plain_lemmas.proofs.Lists.{count_by-append as count-join, count_by-cons as count-next}

-- of what is made of others
pub count-map : {X Y : Type 0} (p : Y → Bool) (q : X → Bool) (f : X → Y) (xs : List X) → ((x : X) → p (f x) ≡ q x) → count_by p (map f xs) ≡ count_by q xs
count-map p q f [] h = refl
count-map p q f (x ∷ xs) h = count-next p (f x) (map f xs) ∙ ((λ i. cond (h x i) 1 0 + count-map p q f xs h i) ∙ sym (count-next q x xs))

pub count-none : {X Y : Type 0} (p : Y → Bool) (f : X → Y) (xs : List X) → ((x : X) → p (f x) ≡ false) → count_by p (map f xs) ≡ 0
count-none p f [] h = refl
count-none p f (x ∷ xs) h = count-next p (f x) (map f xs) ∙ (λ i. cond (h x i) 1 0 + count-none p f xs h i)

-- one that passes just at the place k, where the first is at n
none-numbered : {X : Type 0} (p : X → Bool) (k n : ℕ) (xs : List X) → ((j : ℕ) (x : X) → slice_get xs j ≡ Some x → p x ≡ (n + j == k)) → k < n → count_by p xs ≡ 0
none-numbered p k n [] h l = refl
none-numbered p k n (x ∷ xs) h l =
    let head : p x ≡ false = h 0 x refl ∙ ne_eqb (n + 0) k (λ q. absurd (omega (arith, l, q))) in
    let rest = none-numbered p k (n + 1) xs (λ j y at. let q : n + suc j ≡ n + 1 + j = omega arith in h (suc j) y at ∙ ap (λ m. m == k) q) (omega (arith, l)) in
    count-next p x xs ∙ (λ i. cond (head i) 1 0 + rest i)

one-numbered : {X : Type 0} (p : X → Bool) (k n : ℕ) (xs : List X) → ((j : ℕ) (x : X) → slice_get xs j ≡ Some x → p x ≡ (n + j == k)) → n ≤ k → k < n + length xs → count_by p xs ≡ 1
one-numbered p k n [] h a b = absurd (omega (arith, a, b))
one-numbered p k n (x ∷ xs) h a b = by (n + 0 == k) refl (λ m. one-numbered p k (n + 1) xs more m (omega (arith, b)))
  where
    more : (j : ℕ) (y : _) → slice_get xs j ≡ Some y → p y ≡ (n + 1 + j == k)
    more j y at = let q : n + suc j ≡ n + 1 + j = omega arith in h (suc j) y at ∙ ap (λ m. m == k) q

    by : (t : Bool) → (n + 0 == k) ≡ t → (n + 1 ≤ k → count_by p xs ≡ 1) → count_by p (x ∷ xs) ≡ 1
    by true q more_ =
        let same = eqb-true (n + 0) k q in
        let rest = none-numbered p k (n + 1) xs more (omega (arith, same)) in
        count-next p x xs ∙ (λ i. cond ((h 0 x refl ∙ q) i) 1 0 + rest i)
    by false q more_ =
        let other : n + 0 ≡ k → ⊥ = λ s. (let two : true ≡ false = sym (eq-eqb (n + 0) k s) ∙ q in cc two) in
        let rest = more_ (next other) in
        count-next p x xs ∙ (λ i. cond ((h 0 x refl ∙ q) i) 1 0 + rest i)
      where
        next : (n + 0 ≡ k → ⊥) → n + 1 ≤ k
        next u = grind (arith, a, u)

pub one-at : {X : Type 0} (p : X → Bool) (k : ℕ) (xs : List X) → ((j : ℕ) (x : X) → slice_get xs j ≡ Some x → p x ≡ (j == k)) → k < length xs → count_by p xs ≡ 1
one-at p k xs h l = one-numbered p k 0 xs (λ j x at. let q : j ≡ 0 + j = omega arith in h j x at ∙ ap (λ m. m == k) q) (omega arith) (omega (arith, l))

-- A node that differs from the others stands at its number.
pub number-at : (ns : List Instance) → Apart Differ ns → (k : ℕ) (n : Instance) → slice_get ns k ≡ Some n → number_of n ns ≡ k
number-at [] a k n e = cc e
number-at (m ∷ ms) a zero n e =
    let same : m ≡ n = cc e in
    let yes_ : same_path m.path n.path ≡ true = ap (λ (x : Instance). same_path x.path n.path) same ∙ path-refl n.path in
    ap (λ t. cond (not t) (1 + number_of n ms) 0) yes_
number-at (m ∷ ms) a (suc k) n e = ap (λ t. cond (not t) (1 + number_of n ms) 0) (other (same_path m.path n.path) refl) ∙ (let rest = number-at ms a.1 k n e in omega (arith, rest))
  where
    other : (t : Bool) → same_path m.path n.path ≡ t → same_path m.path n.path ≡ false
    other false q = q
    other true q = absurd (each-in (Differ m) ms n a.0 (place-in ms k n e) (is-same-path m.path n.path q))
