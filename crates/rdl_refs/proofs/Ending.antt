-- Where ranks are those of levels: references can be followed for ever from the things without a rank, and from no other.
use Rattle.std.proofs.Common.{◌≡◌, ◌∙◌, ℕ, zero, suc, ◌<◌, inl, inr, Option, None, Some, List, [], ◌∷◌, length, get_or, slice_get, refl, ap, arith}
use Rattle.topological_order.specs.Levels.{AreLevels, AreWithin, need_at, rank_at}
use Rattle.rdl_refs.specs.Graph.{Edges, Refers, GoesOn, ForEver}
use Rattle.rdl_refs.specs.Walk.{IsUnranked, IsUnrankedNeed}
use Rattle.rdl_refs.proofs.Gets.{get-value, has-at, at-has, option-cases}

-- needs, and what a thing refers to

listed : (edges : Edges) (i k j : ℕ) → need_at edges i k ≡ Some j → slice_get edges i ≡ Some (get_or edges i [])
listed [] i k j h = cc h
listed (e ∷ es) zero k j h = refl
listed (e ∷ es) (suc i) k j h = listed es i k j h

pub need-refers : (edges : Edges) (i k j : ℕ) → need_at edges i k ≡ Some j → Refers edges i j
need-refers edges i k j h = (get_or edges i [], listed edges i k j h, has-at (get_or edges i []) k j h)

pub refers-need : (edges : Edges) (i j : ℕ) → Refers edges i j → (k : ℕ) × (need_at edges i k ≡ Some j)
refers-need edges i j (bs, at, has) = let p = at-has bs j has in (p.0, ap (λ l. slice_get l p.0) (get-value edges i bs [] at) ∙ p.1)

pub unranked-need-refers : (edges : Edges) (ranks : List (Option ℕ)) (i j : ℕ) → IsUnrankedNeed ranks (get_or edges i []) j → Refers edges i j
unranked-need-refers edges ranks i j (k, at, free) = need-refers edges i k j at

module _ (edges : Edges) (ranks : List (Option ℕ)) (order : List ℕ) (levels : AreLevels edges ranks order) where
  pub falls : (i j r : ℕ) → rank_at ranks i ≡ Some r → Refers edges i j → (q : ℕ) × (rank_at ranks j ≡ Some q) × (q < r)
  falls i j r e h = let n = refers-need edges i j h in levels.rises i r n.0 j e n.1

  ends : (fuel i r : ℕ) → r < fuel → rank_at ranks i ≡ Some r → GoesOn edges fuel i → ⊥
  ends zero i r l e h = absurd (omega (arith, l))
  ends (suc fuel) i r l e h = let q = falls i h.0 r e h.1 in let m = q.2 in ends fuel h.0 q.0 (omega (arith, l, m)) q.1 h.2

  pub ranked-ends : (i r : ℕ) → rank_at ranks i ≡ Some r → ForEver edges i → ⊥
  ranked-ends i r e h = ends (suc r) i r (omega arith) e (h (suc r))

  module _ (within : AreWithin edges) where
    goes : (n i : ℕ) → i < length edges → rank_at ranks i ≡ None → GoesOn edges n i
    goes zero i l free = tt
    goes (suc n) i l free =
        let s = levels.stays i l free in
        (s.1, need-refers edges i s.0 s.1 s.2, goes n s.1 (within i s.0 s.1 s.2) s.3)

    pub unranked-goes-on : (i : ℕ) → i < length edges → rank_at ranks i ≡ None → ForEver edges i
    unranked-goes-on i l free n = goes n i l free

    -- a thing without a rank needs one
    pub needs-unranked : (i : ℕ) → IsUnranked ranks i → (j : ℕ) × IsUnrankedNeed ranks (get_or edges i []) j
    needs-unranked i h = let n = levels.sized in let l = h.0 in let s = levels.stays i (omega (arith, l, n)) h.1 in (s.1, (s.0, s.2, s.3))

    pub need-unranked : (i j : ℕ) → IsUnrankedNeed ranks (get_or edges i []) j → IsUnranked ranks j
    need-unranked i j (k, at, free) = let l = within i k j at in let n = levels.sized in (omega (arith, l, n), free)

  pub for-ever-unranked : (i : ℕ) → ForEver edges i → rank_at ranks i ≡ None
  for-ever-unranked i h = elim (option-cases (rank_at ranks i)) [ inl e ↦ e | inr p ↦ absurd (ranked-ends i p.0 p.1 h) ]

  -- who goes on refers to something
  refers-within : (i j : ℕ) → Refers edges i j → i < length edges
  refers-within i j (bs, at, has) = go edges i at
    where
      go : (es : Edges) (i : ℕ) → slice_get es i ≡ Some bs → i < length es
      go [] i e = cc e
      go (x ∷ xs) zero e = omega arith
      go (x ∷ xs) (suc i) e = let l = go xs i e in omega (arith, l)

  pub for-ever-within : (i : ℕ) → ForEver edges i → i < length edges
  for-ever-within i h = refers-within i (h 1).0 (h 1).1
