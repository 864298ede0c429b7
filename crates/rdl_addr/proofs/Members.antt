-- What lists that are joined contain.
use Rattle.std.proofs.Common.{◌≡◌, ℕ, zero, suc, ◌<◌, ◌⊎◌, inl, inr, List, [], ◌∷◌, ◌++◌, length, get_or, flat_map, Contains, arith}

module _ {X : Type 0} where
  abbrev pub In : List X → X → Type 0
  In [] x = ⊥
  In (y ∷ ys) x = (y ≡ x) ⊎ In ys x

  pub in-from : (xs : List X) (x : X) → Contains xs x → In xs x
  in-from xs x (k, l, e) = go xs k l e
    where
      go : (xs : List X) (k : ℕ) → k < length xs → get_or xs k x ≡ x → In xs x
      go [] k l e = omega (arith, l)
      go (y ∷ ys) zero l e = inl e
      go (y ∷ ys) (suc k) l e = inr (go ys k (omega (arith, l)) e)

  pub in-to : (xs : List X) (x : X) → In xs x → Contains xs x
  in-to [] x h = absurd h
  in-to (y ∷ ys) x (inl e) = (0, omega arith, e)
  in-to (y ∷ ys) x (inr h) = let p = in-to ys x h in let l = p.1 in (suc p.0, omega (arith, l), p.2)

  pub in-left : (xs ys : List X) (x : X) → In xs x → In (xs ++ ys) x
  in-left [] ys x h = absurd h
  in-left (z ∷ zs) ys x (inl e) = inl e
  in-left (z ∷ zs) ys x (inr h) = inr (in-left zs ys x h)

  pub in-right : (xs ys : List X) (x : X) → In ys x → In (xs ++ ys) x
  in-right [] ys x h = h
  in-right (z ∷ zs) ys x h = inr (in-right zs ys x h)

  pub in-either : (xs ys : List X) (x : X) → In (xs ++ ys) x → In xs x ⊎ In ys x
  in-either [] ys x h = inr h
  in-either (z ∷ zs) ys x (inl e) = inl (inl e)
  in-either (z ∷ zs) ys x (inr h) = elim (in-either zs ys x h) [ inl p ↦ inl (inr p) | inr p ↦ inr p ]

  -- two lists from each element are as two passes
  module _ {S : Type 0} (A B : S → List X) where
    pub apart : (ss : List S) (x : X) → In (flat_map (λ s. A s ++ B s) ss) x → In (flat_map B ss ++ flat_map A ss) x
    apart [] x h = absurd h
    apart (s ∷ ss) x h = elim (in-either (A s ++ B s) (flat_map (λ t. A t ++ B t) ss) x h) [
      | inl p ↦ elim (in-either (A s) (B s) x p) [
        | inl q ↦ in-right (B s ++ flat_map B ss) (A s ++ flat_map A ss) x (in-left (A s) (flat_map A ss) x q)
        | inr q ↦ in-left (B s ++ flat_map B ss) (A s ++ flat_map A ss) x (in-left (B s) (flat_map B ss) x q)
      ]
      | inr p ↦ elim (in-either (flat_map B ss) (flat_map A ss) x (apart ss x p)) [
        | inl q ↦ in-left (B s ++ flat_map B ss) (A s ++ flat_map A ss) x (in-right (B s) (flat_map B ss) x q)
        | inr q ↦ in-right (B s ++ flat_map B ss) (A s ++ flat_map A ss) x (in-right (A s) (flat_map A ss) x q)
      ]
    ]

    pub together : (ss : List S) (x : X) → In (flat_map B ss ++ flat_map A ss) x → In (flat_map (λ s. A s ++ B s) ss) x
    together [] x h = absurd h
    together (s ∷ ss) x h = elim (in-either (B s ++ flat_map B ss) (A s ++ flat_map A ss) x h) [
      | inl p ↦ elim (in-either (B s) (flat_map B ss) x p) [
        | inl q ↦ in-left (A s ++ B s) (flat_map (λ t. A t ++ B t) ss) x (in-right (A s) (B s) x q)
        | inr q ↦ in-right (A s ++ B s) (flat_map (λ t. A t ++ B t) ss) x (together ss x (in-left (flat_map B ss) (flat_map A ss) x q))
      ]
      | inr p ↦ elim (in-either (A s) (flat_map A ss) x p) [
        | inl q ↦ in-left (A s ++ B s) (flat_map (λ t. A t ++ B t) ss) x (in-left (A s) (B s) x q)
        | inr q ↦ in-right (A s ++ B s) (flat_map (λ t. A t ++ B t) ss) x (together ss x (in-right (flat_map B ss) (flat_map A ss) x q))
      ]
    ]
