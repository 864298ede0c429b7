-- Where each thing has a rank, the order by ranks is an order of all things.
use Rattle.std.specs.List.{AllByRecursion, IsDistinct, remove}
use Rattle.std.proofs.Common.{◌≡◌, ◌∙◌, ℕ, zero, suc, ◌<◌, inl, inr, false, eqb, Option, Some, List, [], ◌∷◌, ◌++◌, length, get_or, slice_get, Contains, IsPermutation, refl, sym, ap, arith}
use Rattle.std.proofs.lemmas.Bool.{cases_eq, eq-eqb, ne_eqb}
use Rattle.std.proofs.lemmas.List.Sorted.{Contains-permutation, IsPermutation-refl, IsPermutation-sym, IsPermutation-trans, IsPermutation-cons, IsPermutation-to_front, IsPermutation-remove}
use Rattle.std.proofs.lemmas.Map.Keys.{IsDistinct-from_apart, IsDistinct-head, IsDistinct-tail, IsDistinct-IsPermutation}
use Rattle.plain_lemmas.proofs.Numbers.{eqb-swap as eqb-flips}
use Rattle.topological_order.specs.Levels.{AreLevels, rank_at}
use Rattle.rdl_values.specs.Instances.{upto}
use Rattle.rdl_refs.specs.Graph.{Edges, IsOrder}
use Rattle.rdl_refs.specs.Walk.{IsUnranked}
use Rattle.rdl_refs.proofs.Gets.{get-at, get-within, get-value, has-at, at-has, option-cases}
use Rattle.rdl_refs.proofs.Ending.{falls}

-- Different numbers that are all below one are these numbers in another order.

head-differs : (n : ℕ) (xs : List ℕ) → AllByRecursion (λ y. eqb n y ≡ false) xs → (i x : ℕ) → slice_get xs i ≡ Some x → x ≡ n → ⊥
head-differs n [] h i x e s = cc e
head-differs n (y ∷ ys) h zero x e s = let f : y ≡ n = (let g : y ≡ x = cc in g ∙ s) in cc (sym (eq-eqb n n refl) ∙ (ap (eqb n) (sym f) ∙ h.0))
head-differs n (y ∷ ys) h (suc i) x e s = head-differs n ys h.1 i x e s

in-tail : (n x : ℕ) (xs : List ℕ) → (x ≡ n → ⊥) → Contains (n ∷ xs) x → Contains xs x
in-tail n x xs ne c = go (at-has (n ∷ xs) x c)
  where
    go : (i : ℕ) × (slice_get (n ∷ xs) i ≡ Some x) → Contains xs x
    go (zero, e) = absurd (ne (let f : n ≡ x = cc in sym f))
    go (suc i, e) = has-at xs i x e

pub all-numbers : (n : ℕ) (xs : List ℕ) → IsDistinct eqb xs → ((x : ℕ) → Contains xs x → x < n) → ((x : ℕ) → x < n → Contains xs x) → IsPermutation xs (upto n)
all-numbers zero [] d low has = IsPermutation-refl []
all-numbers zero (x ∷ xs) d low has = absurd (let l = low x (has-at (x ∷ xs) 0 x refl) in omega (arith, l))
all-numbers (suc n) xs d low has =
    let at = at-has xs n (has n (omega arith)) in
    let k = at.0 in
    let rest = remove xs k in
    let moved : IsPermutation xs (n ∷ rest) = IsPermutation-remove xs k n (get-within xs k n at.1) (sym (get-value xs k n n at.1)) in
    let apart : IsDistinct eqb (n ∷ rest) = IsDistinct-IsPermutation eqb eqb-flips xs (n ∷ rest) moved d in
    let differs = head-differs n rest (IsDistinct-head eqb n rest apart) in
    let low' : (x : ℕ) → Contains rest x → x < n = λ x c.
    let i = at-has rest x c in
    let l = low x (Contains-permutation (n ∷ rest) xs x (IsPermutation-sym xs (n ∷ rest) moved) (has-at (n ∷ rest) (suc i.0) x i.1)) in
    elim (cases_eq x n) [ inl e ↦ absurd (differs i.0 x i.1 e) | inr ne ↦ omega (arith, l, ne) ] in
    let has' : (x : ℕ) → x < n → Contains rest x = λ x l.
    in-tail n x rest (λ e. absurd (omega (arith, l, e))) (Contains-permutation xs (n ∷ rest) x moved (has x (omega (arith, l)))) in
    let inner = all-numbers n rest (IsDistinct-tail eqb n rest apart) low' has' in
    IsPermutation-trans xs (n ∷ rest) (upto n ++ n ∷ []) moved
    (IsPermutation-trans (n ∷ rest) (n ∷ upto n) (upto n ++ n ∷ []) (IsPermutation-cons n rest (upto n) inner) (IsPermutation-sym (upto n ++ n ∷ []) (n ∷ upto n) (IsPermutation-to_front (upto n) n)))

module _ (edges : Edges) (ranks : List (Option ℕ)) (order : List ℕ) (levels : AreLevels edges ranks order) where
  -- what stands in the order is a thing
  pub order-within : (r i : ℕ) → slice_get order r ≡ Some i → i < length edges
  order-within r i e = let l = go ranks i (levels.ranked i r e) in let s = levels.sized in omega (arith, l, s)
    where
      go : (rs : List (Option ℕ)) (i : ℕ) → rank_at rs i ≡ Some r → i < length rs
      go [] i e = cc e
      go (x ∷ xs) zero e = omega arith
      go (x ∷ xs) (suc i) e = let l = go xs i e in omega (arith, l)

  rank-of : (k d : ℕ) → k < length order → rank_at ranks (get_or order k d) ≡ Some k
  rank-of k d l = levels.ranked (get_or order k d) k (get-at order k d l)

  distinct : IsDistinct eqb order
  distinct = IsDistinct-from_apart eqb order (λ i j d l m. ne_eqb (get_or order i d) (get_or order j d) (λ e.
      let f : Some i ≡ Some j = sym (rank-of i d (omega (arith, l, m))) ∙ (ap (rank_at ranks) e ∙ rank-of j d m) in
      let g : i ≡ j = cc in
      absurd (omega (arith, g, l))))

  module _ (all : (i : ℕ) → IsUnranked ranks i → ⊥) where
    ranked-each : (i : ℕ) → i < length edges → (r : ℕ) × (slice_get order r ≡ Some i)
    ranked-each i l = elim (option-cases (rank_at ranks i)) [
      | inl e ↦ absurd (all i (let s = levels.sized in omega (arith, l, s), e))
      | inr p ↦ (p.0, levels.ordered i p.0 p.1)
    ]

    pub order-found : IsOrder edges order
    order-found = record {
      each_once = all-numbers (length edges) order distinct (λ x c. let p = at-has order x c in order-within p.0 x p.1) (λ x l. let p = ranked-each x l in has-at order p.0 x p.1);
      after_its_own = λ i j d l m h.
          let q = falls edges ranks order levels (get_or order i d) (get_or order j d) i (rank-of i d (omega (arith, l, m))) h in
          let e : Some q.0 ≡ Some j = sym q.1 ∙ rank-of j d m in
          let f : q.0 ≡ j = cc in
          let b = q.2 in
          omega (arith, f, b, l);
      not_to_itself = λ k d l h.
          let q = falls edges ranks order levels (get_or order k d) (get_or order k d) k (rank-of k d l) h in
          let e : Some q.0 ≡ Some k = sym q.1 ∙ rank-of k d l in
          let f : q.0 ≡ k = cc in
          let b = q.2 in
          omega (arith, f, b);
    }
