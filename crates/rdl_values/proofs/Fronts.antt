-- Look-ups by places, in the front of a list.
use Rattle.std.proofs.Common.{◌≡◌, ◌∙◌, ℕ, zero, suc, ◌<◌, ◌≤◌, Bool, true, false, cond, bytes_eq, List, [], ◌∷◌, length, map, take, slice_get, Option, None, Some, option_map, option_and_then, refl, sym, ap, arith}
use Rattle.std.specs.Option.{option_or}
use Rattle.rdl_tree.specs.declared.value.Bound.{Bound as BoundOf}
use Rattle.rdl_values.specs.Parameters.{Bound}
use Rattle.rdl_values.specs.Seen.{bound_of}
use Rattle.rdl_values.specs.Values.{entry_named}
use Rattle.rdl_values.specs.Overlaid.{AreApart, Plain, overlaid, value_over}
use Rattle.rdl_values.proofs.Overlays.{named_over}
use Rattle.rdl_values.proofs.Tables.{later, place_in}

none-at : {X Y : Type 0} (f : X → Y) (xs : List X) → xs ≡ [] → (o : Option ℕ) → None ≡ option_and_then (λ k. option_map f (slice_get xs k)) o
none-at f [] e None = refl
none-at f [] e (Some k) = refl
none-at f (x ∷ xs) e o = cc

-- what a front has under a name, by its place in the whole
pub named-at : {A : Type 0} (n : List ℕ) (u : ℕ) (xs : List (List ℕ × A)) → entry_named n (take u xs) ≡ option_and_then (λ k. option_map (λ x. x.1) (slice_get (take u xs) k)) (place_in n (map (λ x. x.0) xs))
named-at {A = A} n zero xs = none-at (λ (x : List ℕ × A). x.1) (take zero xs) refl (place_in n (map (λ x. x.0) xs))
named-at n (suc u) [] = refl
named-at {A = A} n (suc u) (x ∷ xs) = go (bytes_eq x.0 n) refl (place_in n (map (λ y. y.0) xs)) (named-at n u xs) ∙ ap (λ o. option_and_then (λ k. option_map (λ y. y.1) (slice_get (x ∷ take u xs) k)) (cond (bytes_eq x.0 n) (Some 0) o)) (sym (later (λ m. bytes_eq m n) 0 (map (λ y. y.0) xs)))
  where
    go : (b : Bool) → bytes_eq x.0 n ≡ b → (o : Option ℕ) → entry_named n (take u xs) ≡ option_and_then (λ k. option_map (λ y. y.1) (slice_get (take u xs) k)) o
        → entry_named n (x ∷ take u xs) ≡ option_and_then (λ k. option_map (λ y. y.1) (slice_get (x ∷ take u xs) k)) (cond (bytes_eq x.0 n) (Some 0) (option_map suc o))
    go true q o h = rw q refl
    go false q None h = rw q h
    go false q (Some k) h = rw q h

-- A place past a front, and one in it.

past-front : {X : Type 0} (xs : List X) (u k : ℕ) → u ≤ k → slice_get (take u xs) k ≡ None
past-front xs zero k l = refl
past-front [] (suc u) k l = refl
past-front (x ∷ xs) (suc u) zero l = absurd (omega (arith, l))
past-front (x ∷ xs) (suc u) (suc k) l = past-front xs u k (omega (arith, l))

in-front : {X : Type 0} (xs : List X) (u k : ℕ) → k < u → slice_get (take u xs) k ≡ slice_get xs k
in-front xs zero k l = absurd (omega (arith, l))
in-front [] (suc u) k l = refl
in-front (x ∷ xs) (suc u) zero l = refl
in-front (x ∷ xs) (suc u) (suc k) l = in-front xs u k (omega (arith, l))

-- A look-up by the place of a name.
module _ (n : List ℕ) (xs : Plain) (u : ℕ) (t : Bound) (apart : AreApart (take u xs)) where
  by-place : (o : Option ℕ) → o ≡ place_in n (map (λ x. x.0) xs) → entry_named n (overlaid (take u xs) t) ≡ option_and_then (λ w. value_over t (n, w)) (option_and_then (λ k. option_map (λ x. x.1) (slice_get (take u xs) k)) o)
  by-place o e = named_over (take u xs) t n apart ∙ ap (option_and_then (λ w. value_over t (n, w))) (named-at n u xs ∙ ap (option_and_then (λ k. option_map (λ x. x.1) (slice_get (take u xs) k))) (sym e))

  pub not_there : None ≡ place_in n (map (λ x. x.0) xs) → entry_named n (overlaid (take u xs) t) ≡ None
  not_there e = by-place None e

  pub not_seen : (k : ℕ) → Some k ≡ place_in n (map (λ x. x.0) xs) → u ≤ k → entry_named n (overlaid (take u xs) t) ≡ None
  not_seen k e l = by-place (Some k) e ∙ ap (λ o. option_and_then (λ w. value_over t (n, w)) (option_map (λ x. x.1) o)) (past-front xs u k l)

  pub is_seen : (k : ℕ) → Some k ≡ place_in n (map (λ x. x.0) xs) → k < u → k < length xs → entry_named n (overlaid (take u xs) t) ≡ option_or (entry_named n t) (option_and_then (λ x. x.1) (slice_get xs k))
  is_seen k e l m = by-place (Some k) e ∙ ap (λ o. option_and_then (λ w. value_over t (n, w)) (option_map (λ x. x.1) o)) (in-front xs u k l) ∙ go xs k m
    where
      go : (ys : Plain) (j : ℕ) → j < length ys → option_and_then (λ w. value_over t (n, w)) (option_map (λ x. x.1) (slice_get ys j)) ≡ option_or (entry_named n t) (option_and_then (λ x. x.1) (slice_get ys j))
      go [] j l = absurd (omega (arith, l))
      go (y ∷ ys) zero l = refl
      go (y ∷ ys) (suc j) l = go ys j (omega (arith, l))

-- a whole list by places
pub whole-at : {A : Type 0} (n : List ℕ) (xs : List (List ℕ × A)) → entry_named n xs ≡ option_and_then (λ k. option_map (λ x. x.1) (slice_get xs k)) (place_in n (map (λ x. x.0) xs))
whole-at n [] = refl
whole-at n (x ∷ xs) = go (bytes_eq x.0 n) refl (place_in n (map (λ y. y.0) xs)) (whole-at n xs) ∙ ap (λ o. option_and_then (λ k. option_map (λ y. y.1) (slice_get (x ∷ xs) k)) (cond (bytes_eq x.0 n) (Some 0) o)) (sym (later (λ m. bytes_eq m n) 0 (map (λ y. y.0) xs)))
  where
    go : (b : Bool) → bytes_eq x.0 n ≡ b → (o : Option ℕ) → entry_named n xs ≡ option_and_then (λ k. option_map (λ y. y.1) (slice_get xs k)) o
        → entry_named n (x ∷ xs) ≡ option_and_then (λ k. option_map (λ y. y.1) (slice_get (x ∷ xs) k)) (cond (bytes_eq x.0 n) (Some 0) (option_map suc o))
    go true q o h = rw q refl
    go false q None h = rw q h
    go false q (Some k) h = rw q h

pub bound-at : (bs : List BoundOf) (k : ℕ) → slice_get (map bound_of bs) k ≡ option_map bound_of (slice_get bs k)
bound-at [] k = refl
bound-at (b ∷ bs) zero = refl
bound-at (b ∷ bs) (suc k) = bound-at bs k
