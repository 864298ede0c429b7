-- The elements of lists one behind the other.
use Rattle.std.proofs.Common.{◌≡◌, ℕ, zero, suc, ◌+◌, ◌<◌, Some, List, [], ◌∷◌, ◌++◌, length, slice_get, ap, ◌∙◌, arith, inl, inr, ◌⊎◌}
use Rattle.std.specs.Prelude.{Contains}
use Rattle.std.proofs.lemmas.Option.{get_or_from_slice_get, slice_get_within}

pub contains_at : {X : Type 0} (xs : List X) (x : X) → (c : Contains xs x) → slice_get xs c.0 ≡ Some x
contains_at [] x c = absurd (omega (arith, c.1))
contains_at (y ∷ ys) x (zero, low, e) = ap Some e
contains_at (y ∷ ys) x (suc k, low, e) = contains_at ys x (k, omega (arith, low), e)

pub at_contains : {X : Type 0} (xs : List X) (k : ℕ) (x : X) → slice_get xs k ≡ Some x → Contains xs x
at_contains xs k x e = (k, slice_get_within xs k x e, get_or_from_slice_get xs k x x e)

pub in_left : {X : Type 0} (xs ys : List X) (x : X) → Contains xs x → Contains (xs ++ ys) x
in_left xs ys x c = at_contains (xs ++ ys) c.0 x (front xs ys c.0 x (contains_at xs x c))
  where
    front : {X : Type 0} (xs ys : List X) (k : ℕ) (x : X) → slice_get xs k ≡ Some x → slice_get (xs ++ ys) k ≡ Some x
    front [] ys k x e = cc
    front (z ∷ xs) ys zero x e = e
    front (z ∷ xs) ys (suc k) x e = front xs ys k x e

pub in_right : {X : Type 0} (xs ys : List X) (x : X) → Contains ys x → Contains (xs ++ ys) x
in_right xs ys x c = at_contains (xs ++ ys) (length xs + c.0) x (back xs ys c.0 x (contains_at ys x c))
  where
    back : {X : Type 0} (xs ys : List X) (k : ℕ) (x : X) → slice_get ys k ≡ Some x → slice_get (xs ++ ys) (length xs + k) ≡ Some x
    back [] ys k x e = let z : 0 + k ≡ k = omega arith in ap (slice_get ys) z ∙ e
    back (y ∷ xs) ys k x e = let z : suc (length xs) + k ≡ suc (length xs + k) = omega arith in ap (slice_get (y ∷ xs ++ ys)) z ∙ back xs ys k x e

pub in_either : {X : Type 0} (xs ys : List X) (x : X) → Contains (xs ++ ys) x → Contains xs x ⊎ Contains ys x
in_either xs ys x c = elim (split xs ys c.0 x (contains_at (xs ++ ys) x c)) [
  | inl h ↦ inl (at_contains xs h.0 x h.1)
  | inr h ↦ inr (at_contains ys h.0 x h.1)
]
  where
    split : {X : Type 0} (xs ys : List X) (k : ℕ) (x : X) → slice_get (xs ++ ys) k ≡ Some x → ((i : ℕ) × (slice_get xs i ≡ Some x)) ⊎ ((i : ℕ) × (slice_get ys i ≡ Some x))
    split [] ys k x e = inr (k, e)
    split (y ∷ xs) ys zero x e = inl (0, e)
    split (y ∷ xs) ys (suc k) x e = elim (split xs ys k x e) [
      | inl h ↦ inl (suc h.0, h.1)
      | inr h ↦ inr h
    ]
