-- What a filter leaves of a list.
use Rattle.std.proofs.Common.{◌≡◌, ◌∙◌, ℕ, zero, suc, ◌+◌, ◌≤◌, inl, inr, Bool, true, false, cond, List, [], ◌∷◌, ◌++◌, length, filter, take, slice_get, Some, refl, sym, ap, subst, arith}
use Rattle.std.specs.List.{AllByRecursion}
use Rattle.std.proofs.lemmas.List.{take_more}
use Rattle.rdl_nodes.proofs.Apart.{Apart}
use Rattle.rdl_nodes.proofs.Members.{In, get-read, get-within}

module _ {X : Type 0} (p : X → Bool) where
  filter-join : (xs ys : List X) → filter p (xs ++ ys) ≡ filter p xs ++ filter p ys
  filter-join [] ys = refl
  filter-join (x ∷ xs) ys = go (p x) (filter-join xs ys)
    where
      go : (b : Bool) → filter p (xs ++ ys) ≡ filter p xs ++ filter p ys → cond b (x ∷ filter p (xs ++ ys)) (filter p (xs ++ ys)) ≡ cond b (x ∷ filter p xs) (filter p xs) ++ filter p ys
      go true e = ap (λ l. x ∷ l) e
      go false e = e

  pub filter-next : (xs : List X) (i : ℕ) (x : X) → slice_get xs i ≡ Some x → filter p (take (i + 1) xs) ≡ filter p (take i xs) ++ cond (p x) (x ∷ []) []
  filter-next xs i x at =
      let low = get-within xs i x at in
      ap (filter p) (take_more xs i x low ∙ ap (λ y. take i xs ++ (y ∷ [])) (get-read xs i x x at)) ∙ filter-join (take i xs) (x ∷ [])

  pub filter-all : (xs : List X) (i : ℕ) → length xs ≤ i → filter p (take i xs) ≡ filter p xs
  filter-all [] zero l = refl
  filter-all [] (suc i) l = refl
  filter-all (x ∷ xs) zero l = absurd (omega (arith, l))
  filter-all (x ∷ xs) (suc i) l = ap (λ ys. cond (p x) (x ∷ ys) ys) (filter-all xs i (omega (arith, l)))

  each-kept : (P : X → Type 0) (xs : List X) → AllByRecursion P xs → AllByRecursion P (filter p xs)
  each-kept P [] h = tt
  each-kept P (x ∷ xs) h = go (p x) (each-kept P xs h.1)
    where
      go : (b : Bool) → AllByRecursion P (filter p xs) → AllByRecursion P (cond b (x ∷ filter p xs) (filter p xs))
      go true more = (h.0, more)
      go false more = more

  pub apart-kept : (R : X → X → Type 0) (xs : List X) → Apart R xs → Apart R (filter p xs)
  apart-kept R [] h = tt
  apart-kept R (x ∷ xs) h = go (p x) (apart-kept R xs h.1)
    where
      go : (b : Bool) → Apart R (filter p xs) → Apart R (cond b (x ∷ filter p xs) (filter p xs))
      go true more = (each-kept (R x) xs h.0, more)
      go false more = more

  pub kept-in : (xs : List X) (y : X) → In (filter p xs) y → In xs y
  kept-in [] y h = absurd h
  kept-in (x ∷ xs) y h = go (p x) h (λ g. kept-in xs y g)
    where
      go : (b : Bool) → In (cond b (x ∷ filter p xs) (filter p xs)) y → (In (filter p xs) y → In xs y) → In (x ∷ xs) y
      go true (inl e) more = inl e
      go true (inr g) more = inr (more g)
      go false g more = inr (more g)

  pub kept-passes : (xs : List X) (y : X) → In (filter p xs) y → p y ≡ true
  kept-passes [] y h = absurd h
  kept-passes (x ∷ xs) y h = go (p x) refl h (λ g. kept-passes xs y g)
    where
      go : (b : Bool) → p x ≡ b → In (cond b (x ∷ filter p xs) (filter p xs)) y → (In (filter p xs) y → p y ≡ true) → p y ≡ true
      go true e (inl q) more = ap p (sym q) ∙ e
      go true e (inr g) more = more g
      go false e g more = more g

  pub in-kept : (xs : List X) (y : X) → In xs y → p y ≡ true → In (filter p xs) y
  in-kept [] y h e = absurd h
  in-kept (x ∷ xs) y (inl q) e = let passes : p x ≡ true = ap p q ∙ e in subst (λ b. In (cond b (x ∷ filter p xs) (filter p xs)) y) (sym passes) (inl q)
  in-kept (x ∷ xs) y (inr h) e = go (p x) (in-kept xs y h e)
    where
      go : (b : Bool) → In (filter p xs) y → In (cond b (x ∷ filter p xs) (filter p xs)) y
      go true g = inr g
      go false g = g

  -- a weaker test before it changes nothing
  pub twice : (q : X → Bool) → ((x : X) → p x ≡ true → q x ≡ true) → (xs : List X) → filter p (filter q xs) ≡ filter p xs
  twice q imp [] = refl
  twice q imp (x ∷ xs) = go (q x) refl (twice q imp xs)
    where
      none : (b : Bool) → p x ≡ b → q x ≡ false → filter p xs ≡ cond b (x ∷ filter p xs) (filter p xs)
      none true e f = let two : true ≡ false = sym (imp x e) ∙ f in cc two
      none false e f = refl

      go : (b : Bool) → q x ≡ b → filter p (filter q xs) ≡ filter p xs → filter p (cond b (x ∷ filter q xs) (filter q xs)) ≡ cond (p x) (x ∷ filter p xs) (filter p xs)
      go true e more = ap (λ ys. cond (p x) (x ∷ ys) ys) more
      go false e more = more ∙ none (p x) refl e
