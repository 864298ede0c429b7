-- Items of a list by their places.
use Rattle.std.specs.List.{slice_get}
use Rattle.std.proofs.Math.ListN.{set}
use Rattle.std.proofs.Common.{zero, suc, ℕ, ◌≡◌, ◌<◌, List, [], ◌∷◌, ◌++◌, length, get_or, Some, inl, inr, ◌⊎◌, refl, ap, sym, ◌∙◌, arith}
use Rattle.std.proofs.lemmas.Option.{get_or_from_slice_get}

module _ {X : Type 0} where
  pub slice_get-front : (xs : List X) (y : X) (i : ℕ) (x : X) → slice_get xs i ≡ Some x → slice_get (xs ++ y ∷ []) i ≡ Some x
  slice_get-front [] y i x h = cc
  slice_get-front (z ∷ xs) y zero x h = h
  slice_get-front (z ∷ xs) y (suc i) x h = slice_get-front xs y i x h

  pub slice_get-end : (xs : List X) (y : X) (i : ℕ) → i ≡ length xs → slice_get (xs ++ y ∷ []) i ≡ Some y
  slice_get-end [] y zero e = refl
  slice_get-end [] y (suc i) e = absurd (omega arith)
  slice_get-end (z ∷ xs) y zero e = absurd (omega arith)
  slice_get-end (z ∷ xs) y (suc i) e = slice_get-end xs y i (omega arith)

  -- a place in a list with one item more is within the list, or the last
  pub push_cases : (xs : List X) (y : X) (i : ℕ) (x : X) → slice_get (xs ++ y ∷ []) i ≡ Some x
      → (slice_get xs i ≡ Some x) ⊎ ((i ≡ length xs) × (x ≡ y))
  push_cases [] y zero x h = inr (refl, cc)
  push_cases [] y (suc i) x h = cc
  push_cases (z ∷ xs) y zero x h = inl h
  push_cases (z ∷ xs) y (suc i) x h = elim (push_cases xs y i x h) [ inl e ↦ inl e | inr p ↦ inr (ap suc p.0, p.1) ]

  -- a place in a list with one item replaced has that item, or what it had
  pub set_cases : (xs : List X) (k : ℕ) (y : X) (i : ℕ) (x : X) → slice_get (set xs k y) i ≡ Some x
      → ((i ≡ k → ⊥) × (slice_get xs i ≡ Some x)) ⊎ ((i ≡ k) × (x ≡ y))
  set_cases [] k y i x h = cc
  set_cases (z ∷ xs) zero y zero x h = inr (refl, cc)
  set_cases (z ∷ xs) zero y (suc i) x h = inl (λ e. absurd (omega arith), h)
  set_cases (z ∷ xs) (suc k) y zero x h = inl (λ e. absurd (omega arith), h)
  set_cases (z ∷ xs) (suc k) y (suc i) x h = elim (set_cases xs k y i x h) [ inl p ↦ inl (λ e. p.0 (omega arith), p.1) | inr p ↦ inr (ap suc p.0, p.1) ]

  pub slice_get-set_same : (xs : List X) (i : ℕ) (x y : X) → slice_get xs i ≡ Some x → slice_get (set xs i y) i ≡ Some y
  slice_get-set_same [] i x y h = cc
  slice_get-set_same (z ∷ xs) zero x y h = refl
  slice_get-set_same (z ∷ xs) (suc i) x y h = slice_get-set_same xs i x y h

  pub slice_get-set_other : (xs : List X) (i j : ℕ) (y x : X) → (j ≡ i → ⊥) → slice_get xs j ≡ Some x → slice_get (set xs i y) j ≡ Some x
  slice_get-set_other [] i j y x ne h = h
  slice_get-set_other (z ∷ xs) zero zero y x ne h = absurd (ne refl)
  slice_get-set_other (z ∷ xs) zero (suc j) y x ne h = h
  slice_get-set_other (z ∷ xs) (suc i) zero y x ne h = h
  slice_get-set_other (z ∷ xs) (suc i) (suc j) y x ne h = slice_get-set_other xs i j y x (λ e. ne (ap suc e)) h

  pub slice_get-within : (xs : List X) (i : ℕ) (x : X) → slice_get xs i ≡ Some x → i < length xs
  slice_get-within [] i x h = cc
  slice_get-within (z ∷ xs) zero x h = omega arith
  slice_get-within (z ∷ xs) (suc i) x h = let r : i < length xs = slice_get-within xs i x h in omega arith

  -- there is an item at each place of a list
  pub item_at : (xs : List X) (i : ℕ) → i < length xs → (x : X) × (slice_get xs i ≡ Some x)
  item_at [] i h = absurd (omega arith)
  item_at (x ∷ xs) zero h = (x, refl)
  item_at (x ∷ xs) (suc i) h = let h' : i < length xs = omega arith in item_at xs i h'

  pub one_item : (xs : List X) (i : ℕ) (x y : X) → slice_get xs i ≡ Some x → slice_get xs i ≡ Some y → x ≡ y
  one_item xs i x y p q = let r : Some x ≡ Some y = sym p ∙ q in cc

  -- what was read at a place is the item there
  pub at_place : (xs : List X) (n k : ℕ) (f a : X) → f ≡ get_or xs n f → k ≡ n → slice_get xs k ≡ Some a → f ≡ a
  at_place xs n k f a r e h = r ∙ get_or_from_slice_get xs n a f (ap (slice_get xs) (sym e) ∙ h)

  -- what was read at a place within a list
  pub read_at : (xs ys : List X) (i : ℕ) (x : X) → xs ≡ ys → i < length xs → x ≡ get_or xs i x → slice_get ys i ≡ Some x
  read_at xs ys i x e l r =
      let a = item_at xs i l in
      ap (λ zs. slice_get zs i) (sym e) ∙ a.1 ∙ ap Some (sym (at_place xs i i x a.0 r refl a.1))
