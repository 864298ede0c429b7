-- Elements of lists by their places.
use Rattle.std.proofs.Common.{◌≡◌, ◌∙◌, ℕ, zero, suc, ◌+◌, ◌<◌, ◌⊎◌, inl, inr, true, Option, None, Some, is_some, Vec, Global, List, [], ◌∷◌, ◌++◌, length, get_or, slice_get, map, drop, Contains, refl, sym, ap, arith}
use Rattle.std.specs.Option.{unwrap_or}
use Rattle.rdl_refs.specs.Tables.{list_at}

module _ {X : Type 0} where
  pub get-at : (xs : List X) (i : ℕ) (d : X) → i < length xs → slice_get xs i ≡ Some (get_or xs i d)
  get-at [] i d l = absurd (omega (arith, l))
  get-at (x ∷ xs) zero d l = refl
  get-at (x ∷ xs) (suc i) d l = get-at xs i d (omega (arith, l))

  pub get-within : (xs : List X) (i : ℕ) (x : X) → slice_get xs i ≡ Some x → i < length xs
  get-within [] i x h = cc h
  get-within (y ∷ ys) zero x h = omega arith
  get-within (y ∷ ys) (suc i) x h = let l = get-within ys i x h in omega (arith, l)

  pub get-value : (xs : List X) (i : ℕ) (x d : X) → slice_get xs i ≡ Some x → get_or xs i d ≡ x
  get-value [] i x d h = cc h
  get-value (y ∷ ys) zero x d h = cc
  get-value (y ∷ ys) (suc i) x d h = get-value ys i x d h

  pub get-front : (xs ys : List X) (m : ℕ) (x : X) → slice_get xs m ≡ Some x → slice_get (xs ++ ys) m ≡ Some x
  get-front [] ys m x h = cc h
  get-front (y ∷ xs) ys zero x h = h
  get-front (y ∷ xs) ys (suc m) x h = get-front xs ys m x h

  pub get-last : (xs : List X) (w : X) → slice_get (xs ++ w ∷ []) (length xs) ≡ Some w
  get-last [] w = refl
  get-last (y ∷ xs) w = get-last xs w

  pub get-pushed : (xs : List X) (w x : X) (m : ℕ) → slice_get (xs ++ w ∷ []) m ≡ Some x → (slice_get xs m ≡ Some x) ⊎ ((m ≡ length xs) × (x ≡ w))
  get-pushed [] w x zero h = inr (refl, cc)
  get-pushed [] w x (suc m) h = cc h
  get-pushed (y ∷ xs) w x zero h = inl h
  get-pushed (y ∷ xs) w x (suc m) h = elim (get-pushed xs w x m h) [ inl p ↦ inl p | inr p ↦ inr (ap suc p.0, p.1) ]

  pub get-drop : (k : ℕ) (xs : List X) (p : ℕ) → slice_get (drop k xs) p ≡ slice_get xs (k + p)
  get-drop zero xs p = let e : 0 + p ≡ p = omega arith in sym (ap (slice_get xs) e)
  get-drop (suc k) [] p = refl
  get-drop (suc k) (x ∷ xs) p = let e : suc k + p ≡ suc (k + p) = omega arith in get-drop k xs p ∙ sym (ap (slice_get (x ∷ xs)) e)

  pub has-at : (xs : List X) (i : ℕ) (x : X) → slice_get xs i ≡ Some x → Contains xs x
  has-at xs i x h = (i, get-within xs i x h, get-value xs i x x h)

  pub at-has : (xs : List X) (x : X) → Contains xs x → (i : ℕ) × (slice_get xs i ≡ Some x)
  at-has xs x (i, l, e) = (i, get-at xs i x l ∙ ap Some e)

pub get-mapped : {X Y : Type 0} (f : X → Y) (xs : List X) (i : ℕ) (y : Y) → slice_get (map f xs) i ≡ Some y → (x : X) × (slice_get xs i ≡ Some x) × (y ≡ f x)
get-mapped f [] i y h = cc h
get-mapped f (x ∷ xs) zero y h = (x, refl, cc)
get-mapped f (x ∷ xs) (suc i) y h = get-mapped f xs i y h

-- what has a value at a place has one there
pub option-cases : {X : Type 0} (o : Option X) → (o ≡ None) ⊎ ((x : X) × (o ≡ Some x))
option-cases None = inl refl
option-cases (Some x) = inr (x, refl)

pub some-from : {X : Type 0} (o : Option X) (d : X) → is_some o ≡ true → o ≡ Some (unwrap_or o d)
some-from None d h = cc h
some-from (Some x) d h = refl

pub list-at : {X : Type 0} (vs : List (Vec X Global)) (i : ℕ) (d : Vec X Global) → i < length vs → list_at vs i ≡ (get_or vs i d).items
list-at [] i d l = absurd (omega (arith, l))
list-at (x ∷ xs) zero d l = refl
list-at (x ∷ xs) (suc i) d l = list-at xs i d (omega (arith, l))
