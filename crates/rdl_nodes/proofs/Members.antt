-- What lists contain.
use Rattle.std.proofs.Common.{◌≡◌, ℕ, zero, suc, ◌<◌, ◌⊎◌, inl, inr, List, [], ◌∷◌, ◌++◌, length, get_or, map, flat_map, slice_get, Contains, Some, refl, ap, sym, subst, arith}
use Rattle.std.specs.List.{AllByRecursion}

module _ {X : Type 0} where
  abbrev pub In : List X → X → Type 0
  In [] x = ⊥
  In (y ∷ ys) x = (y ≡ x) ⊎ In ys x

  pub in-from : (xs : List X) (x : X) → Contains xs x → In xs x
  in-from xs x (k, l, e) = go xs k l e
    where
      go : (xs : List X) (k : ℕ) → k < length xs → get_or xs k x ≡ x → In xs x
      go [] k l e = omega (arith, l)
      go (y ∷ ys) zero l e = inl e
      go (y ∷ ys) (suc k) l e = inr (go ys k (omega (arith, l)) e)

  pub in-to : (xs : List X) (x : X) → In xs x → Contains xs x
  in-to [] x h = absurd h
  in-to (y ∷ ys) x (inl e) = (0, omega arith, e)
  in-to (y ∷ ys) x (inr h) = let p = in-to ys x h in let l = p.1 in (suc p.0, omega (arith, l), p.2)

  pub in-left : (xs ys : List X) (x : X) → In xs x → In (xs ++ ys) x
  in-left [] ys x h = absurd h
  in-left (z ∷ zs) ys x (inl e) = inl e
  in-left (z ∷ zs) ys x (inr h) = inr (in-left zs ys x h)

  pub in-right : (xs ys : List X) (x : X) → In ys x → In (xs ++ ys) x
  in-right [] ys x h = h
  in-right (z ∷ zs) ys x h = inr (in-right zs ys x h)

  pub in-either : (xs ys : List X) (x : X) → In (xs ++ ys) x → In xs x ⊎ In ys x
  in-either [] ys x h = inr h
  in-either (z ∷ zs) ys x (inl e) = inl (inl e)
  in-either (z ∷ zs) ys x (inr h) = elim (in-either zs ys x h) [ inl p ↦ inl (inr p) | inr p ↦ inr p ]

  -- where an element stands
  pub in-place : (xs : List X) (x : X) → In xs x → (k : ℕ) × (k < length xs) × (slice_get xs k ≡ Some x)
  in-place [] x h = absurd h
  in-place (y ∷ ys) x (inl e) = (0, omega arith, ap Some e)
  in-place (y ∷ ys) x (inr h) = let p = in-place ys x h in let l = p.1 in (suc p.0, omega (arith, l), p.2)

  pub place-in : (xs : List X) (k : ℕ) (x : X) → slice_get xs k ≡ Some x → In xs x
  place-in [] k x e = cc e
  place-in (y ∷ ys) zero x e = inl (cc e)
  place-in (y ∷ ys) (suc k) x e = inr (place-in ys k x e)

  pub each-in : (P : X → Type 0) (xs : List X) (x : X) → AllByRecursion P xs → In xs x → P x
  each-in P [] x h i = absurd i
  each-in P (y ∷ ys) x h (inl e) = subst P e h.0
  each-in P (y ∷ ys) x h (inr i) = each-in P ys x h.1 i

  pub get-within : (xs : List X) (i : ℕ) (x : X) → slice_get xs i ≡ Some x → i < length xs
  get-within [] i x h = cc h
  get-within (y ∷ ys) zero x h = omega arith
  get-within (y ∷ ys) (suc i) x h = let l = get-within ys i x h in omega (arith, l)

  pub get-read : (xs : List X) (i : ℕ) (d x : X) → slice_get xs i ≡ Some x → get_or xs i d ≡ x
  get-read [] i d x h = cc h
  get-read (y ∷ ys) zero d x h = cc h
  get-read (y ∷ ys) (suc i) d x h = get-read ys i d x h

  pub get-made : (xs : List X) (i : ℕ) (d x : X) → i < length xs → get_or xs i d ≡ x → slice_get xs i ≡ Some x
  get-made [] i d x l h = absurd (omega (arith, l))
  get-made (y ∷ ys) zero d x l h = ap Some h
  get-made (y ∷ ys) (suc i) d x l h = get-made ys i d x (omega (arith, l)) h

  pub any-default : (xs : List X) (i : ℕ) (d e : X) → i < length xs → get_or xs i d ≡ get_or xs i e
  any-default [] i d e l = absurd (omega (arith, l))
  any-default (x ∷ xs) zero d e l = refl
  any-default (x ∷ xs) (suc i) d e l = any-default xs i d e (omega (arith, l))

module _ {X Y : Type 0} (f : X → List Y) where
  pub in-flat : (xs : List X) (x : X) (y : Y) → In xs x → In (f x) y → In (flat_map f xs) y
  in-flat [] x y h g = absurd h
  in-flat (z ∷ zs) x y (inl e) g = in-left (f z) (flat_map f zs) y (subst (λ w. In (f w) y) (sym e) g)
  in-flat (z ∷ zs) x y (inr h) g = in-right (f z) (flat_map f zs) y (in-flat zs x y h g)

  pub flat-in : (xs : List X) (y : Y) → In (flat_map f xs) y → (x : X) × In xs x × In (f x) y
  flat-in [] y h = absurd h
  flat-in (z ∷ zs) y h = elim (in-either (f z) (flat_map f zs) y h) [
    | inl p ↦ (z, inl refl, p)
    | inr p ↦ let q = flat-in zs y p in (q.0, inr q.1, q.2)
  ]

module _ {X Y : Type 0} (f : X → Y) where
  pub in-map : (xs : List X) (x : X) → In xs x → In (map f xs) (f x)
  in-map [] x h = absurd h
  in-map (z ∷ zs) x (inl e) = inl (ap f e)
  in-map (z ∷ zs) x (inr h) = inr (in-map zs x h)

  pub map-in : (xs : List X) (y : Y) → In (map f xs) y → (x : X) × In xs x × (f x ≡ y)
  map-in [] y h = absurd h
  map-in (z ∷ zs) y (inl e) = (z, inl refl, e)
  map-in (z ∷ zs) y (inr h) = let q = map-in zs y h in (q.0, inr q.1, q.2)

  pub get-map : (xs : List X) (i : ℕ) (x : X) → slice_get xs i ≡ Some x → slice_get (map f xs) i ≡ Some (f x)
  get-map [] i x e = cc e
  get-map (z ∷ zs) zero x e = let s : z ≡ x = cc e in ap (λ w. Some (f w)) s
  get-map (z ∷ zs) (suc i) x e = get-map zs i x e
