-- Circles go on for ever, and where an order exists nothing does.
use Rattle.std.proofs.Common.{◌≡◌, ◌∙◌, ℕ, zero, suc, ◌<◌, ◌≤◌, ◌⊎◌, inl, inr, List, [], ◌∷◌, ◌++◌, length, get_or, slice_get, Some, Contains, refl, sym, ap, subst, arith, length-append}
use Rattle.std.specs.List.{All, AllByRecursion}
use Rattle.std.proofs.lemmas.List.Elements.{All-from_recursion, at_from_Contains, Contains-from_at}
use Rattle.std.proofs.lemmas.List.Sorted.{Contains-permutation, IsPermutation-sym}
use Rattle.rdl_values.specs.Instances.{upto}
use Rattle.rdl_refs.specs.Graph.{Edges, Refers, GoesOn, ForEver, IsOrder, GoesRound, IsCircleOf}

module _ (edges : Edges) where
  -- Circles.

  nowhere : (xs : List ℕ) → AllByRecursion (GoesOn edges 0) xs
  nowhere [] = tt
  nowhere (x ∷ xs) = (tt, nowhere xs)

  one_step : (k first : ℕ) → GoesOn edges k first → (xs : List ℕ) → AllByRecursion (GoesOn edges k) xs → GoesRound edges first xs → AllByRecursion (GoesOn edges (suc k)) xs
  one_step k first f [] h r = tt
  one_step k first f (a ∷ []) h r = ((first, r, f), tt)
  one_step k first f (a ∷ b ∷ more) h r = ((b, r.0, h.1.0), one_step k first f (b ∷ more) h.1 r.1)

  steps : (k first : ℕ) (others : List ℕ) → GoesRound edges first (first ∷ others) → AllByRecursion (GoesOn edges k) (first ∷ others)
  steps zero first others r = nowhere (first ∷ others)
  steps (suc k) first others r = let h = steps k first others r in one_step k first h.0 (first ∷ others) h r

  for_each : (xs : List ℕ) → ((k : ℕ) → AllByRecursion (GoesOn edges k) xs) → AllByRecursion (ForEver edges) xs
  for_each [] h = tt
  for_each (x ∷ xs) h = ((λ k. (h k).0), for_each xs (λ k. (h k).1))

  pub circle_goes_on : (circle : List ℕ) → IsCircleOf edges circle → All (ForEver edges) circle
  circle_goes_on [] c = absurd c
  circle_goes_on (a ∷ others) c = All-from_recursion (ForEver edges) (a ∷ others) (for_each (a ∷ others) (λ k. steps k a others c.round))

  -- Orders.

  shorter : (m n a : ℕ) → m ≤ n → GoesOn edges n a → GoesOn edges m a
  shorter zero n a l h = tt
  shorter (suc m) zero a l h = absurd (omega (arith, l))
  shorter (suc m) (suc n) a l h = (h.0, h.1, shorter m n h.0 (omega (arith, l)) h.2)

  in_range : (es : Edges) (b : ℕ) (bs : List ℕ) → slice_get es b ≡ Some bs → b < length es
  in_range [] zero bs e = cc
  in_range [] (suc b) bs e = cc
  in_range (x ∷ es) zero bs e = omega arith
  in_range (x ∷ es) (suc b) bs e = let l = in_range es b bs e in omega (arith, l)

  length-upto : (n : ℕ) → length (upto n) ≡ n
  length-upto zero = refl
  length-upto (suc n) = let l = length-upto n in let s = length-append (upto n) (n ∷ []) in omega (arith, l, s)

  at_left : (xs ys : List ℕ) (k d : ℕ) → k < length xs → get_or (xs ++ ys) k d ≡ get_or xs k d
  at_left [] ys k d l = absurd (omega (arith, l))
  at_left (x ∷ xs) ys zero d l = refl
  at_left (x ∷ xs) ys (suc k) d l = at_left xs ys k d (omega (arith, l))

  at_last : (xs : List ℕ) (y d : ℕ) → get_or (xs ++ (y ∷ [])) (length xs) d ≡ y
  at_last [] y d = refl
  at_last (x ∷ xs) y d = at_last xs y d

  at-upto : (n k d : ℕ) → k < n → get_or (upto n) k d ≡ k
  at-upto zero k d l = absurd (omega (arith, l))
  at-upto (suc n) k d l = by (split k n (omega (arith, l))) (at-upto n k d)
    where
      split : (k n : ℕ) → k ≤ n → (k < n) ⊎ (k ≡ n)
      split zero zero l = inr refl
      split zero (suc n) l = inl (omega arith)
      split (suc k) zero l = absurd (omega (arith, l))
      split (suc k) (suc n) l = up (split k n (omega (arith, l)))
        where
          up : (k < n) ⊎ (k ≡ n) → (suc k < suc n) ⊎ (suc k ≡ suc n)
          up (inl m) = inl (omega (arith, m))
          up (inr e) = inr (ap suc e)

      by : (k < n) ⊎ (k ≡ n) → (k < n → get_or (upto n) k d ≡ k) → get_or (upto n ++ (n ∷ [])) k d ≡ k
      by (inl m) rest = at_left (upto n) (n ∷ []) k d (let e = length-upto n in omega (arith, m, e)) ∙ rest m
      by (inr e) rest = let last : length (upto n) ≡ k = length-upto n ∙ sym e in subst (λ i. get_or (upto n ++ (n ∷ [])) i d ≡ k) last (at_last (upto n) n d ∙ sym e)

  upto_has : (n k : ℕ) → k < n → Contains (upto n) k
  upto_has n k l = Contains-from_at (upto n) k (k, (let e = length-upto n in omega (arith, l, e)), λ d. at-upto n k d l)

  module _ (order : List ℕ) (o : IsOrder edges order) where
    -- the place of a thing in the order
    abbrev Place : ℕ → ℕ → Type 0
    Place i a = (i < length order) × ((d : ℕ) → get_or order i d ≡ a)

    placed : (a : ℕ) → a < length edges → (i : ℕ) × Place i a
    placed a l = let p = at_from_Contains order a (Contains-permutation (upto (length edges)) order a (IsPermutation-sym order (upto (length edges)) o.each_once) (upto_has (length edges) a l)) in (p.0, (p.1, p.2))

    refers_back : (i j a b : ℕ) → Place i a → Place j b → Refers edges a b → j < i
    refers_back i j a b p q r = by (compared j i)
      where
        compared : (j i : ℕ) → (j < i) ⊎ (i ≡ j) ⊎ (i < j)
        compared j i = grind arith

        by : (j < i) ⊎ (i ≡ j) ⊎ (i < j) → j < i
        by (inl l) = l
        by (inr (inl e)) = let same : a ≡ b = sym (p.1 0) ∙ ap (λ k. get_or order k 0) e ∙ q.1 0 in absurd (o.not_to_itself i 0 p.0 (subst (λ x. Refers edges x x) (sym (p.1 0)) (subst (λ x. Refers edges a x) (sym same) r)))
        by (inr (inr l)) = absurd (o.after_its_own i j 0 l q.0 (subst (λ x. Refers edges x (get_or order j 0)) (sym (p.1 0)) (subst (λ x. Refers edges a x) (sym (q.1 0)) r)))

    ends : (fuel i a : ℕ) → i < fuel → Place i a → GoesOn edges (suc (suc i)) a → ⊥
    ends zero i a l p h = absurd (omega (arith, l))
    ends (suc fuel) i a l p h =
        let b = h.0 in
        let at = placed b (in_range edges b h.2.1.0 h.2.1.1) in
        let back = refers_back i at.0 a b p at.1 h.1 in
        ends fuel at.0 b (omega (arith, l, back)) at.1 (shorter (suc (suc at.0)) (suc i) b (omega (arith, back)) h.2)

    pub order_ends : (a : ℕ) → ForEver edges a → ⊥
    order_ends a h =
        let once = h 1 in
        let at = placed a (in_range edges a once.1.0 once.1.1) in
        ends (suc at.0) at.0 a (omega arith) at.1 (h (suc (suc at.0)))
