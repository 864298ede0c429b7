-- Steps of loops over lists, and elements that differ.
use Rattle.std.proofs.Common.{◌≡◌, ◌∙◌, ◌≢◌, ◌⊎◌, inl, inr, ℕ, zero, suc, ◌+◌, ◌≤◌, Bool, true, false, cond, List, [], ◌∷◌, ◌++◌, length, map, filter, take, slice_get, Some, refl, sym, ap, subst, arith}
use Rattle.std.specs.List.{AllByRecursion}
use Rattle.std.proofs.lemmas.List.{take_more}
use Rattle.rdl_nodes.proofs.Apart.{Apart}
use Rattle.rdl_nodes.proofs.Members.{In, each-in, get-read, get-within}

module _ {X : Type 0} (p : X → Bool) where
  filter-join : (xs ys : List X) → filter p (xs ++ ys) ≡ filter p xs ++ filter p ys
  filter-join [] ys = refl
  filter-join (x ∷ xs) ys = go (p x) (filter-join xs ys)
    where
      go : (b : Bool) → filter p (xs ++ ys) ≡ filter p xs ++ filter p ys → cond b (x ∷ filter p (xs ++ ys)) (filter p (xs ++ ys)) ≡ cond b (x ∷ filter p xs) (filter p xs) ++ filter p ys
      go true e = ap (λ l. x ∷ l) e
      go false e = e

  pub filter-next : (xs : List X) (i : ℕ) (x : X) → slice_get xs i ≡ Some x → filter p (take (i + 1) xs) ≡ filter p (take i xs) ++ cond (p x) (x ∷ []) []
  filter-next xs i x at =
      let low = get-within xs i x at in
      ap (filter p) (take_more xs i x low ∙ ap (λ y. take i xs ++ (y ∷ [])) (get-read xs i x x at)) ∙ filter-join (take i xs) (x ∷ [])

  pub filter-all : (xs : List X) (i : ℕ) → length xs ≤ i → filter p (take i xs) ≡ filter p xs
  filter-all [] zero l = refl
  filter-all [] (suc i) l = refl
  filter-all (x ∷ xs) zero l = absurd (omega (arith, l))
  filter-all (x ∷ xs) (suc i) l = ap (λ ys. cond (p x) (x ∷ ys) ys) (filter-all xs i (omega (arith, l)))

  -- what passes is among all
  pub filter-in : (xs : List X) (x : X) → In (filter p xs) x → In xs x
  filter-in [] x h = h
  filter-in (y ∷ ys) x h = go (p y) (filter-in ys x) h
    where
      go : (b : Bool) → (In (filter p ys) x → In ys x) → In (cond b (y ∷ filter p ys) (filter p ys)) x → (y ≡ x) ⊎ In ys x
      go true more (inl e) = inl e
      go true more (inr h) = inr (more h)
      go false more h = inr (more h)

  each-filter : (P : X → Type 0) (xs : List X) → AllByRecursion P xs → AllByRecursion P (filter p xs)
  each-filter P [] h = tt
  each-filter P (x ∷ xs) h = go (p x) (each-filter P xs h.1)
    where
      go : (b : Bool) → AllByRecursion P (filter p xs) → AllByRecursion P (cond b (x ∷ filter p xs) (filter p xs))
      go true k = (h.0, k)
      go false k = k

  pub apart-filter : (R : X → X → Type 0) (xs : List X) → Apart R xs → Apart R (filter p xs)
  apart-filter R [] h = tt
  apart-filter R (x ∷ xs) h = go (p x) (apart-filter R xs h.1)
    where
      go : (b : Bool) → Apart R (filter p xs) → Apart R (cond b (x ∷ filter p xs) (filter p xs))
      go true k = (each-filter (R x) xs h.0, k)
      go false k = k

-- of elements that differ in something, one alone has it
pub only-one : {X Y : Type 0} (f : X → Y) (xs : List X) → Apart (λ a b. f a ≢ f b) xs → (a b : X) → In xs a → In xs b → f a ≡ f b → a ≡ b
only-one f [] h a b i j e = absurd i
only-one f (x ∷ xs) h a b (inl p) (inl q) e = sym p ∙ q
only-one f (x ∷ xs) h a b (inl p) (inr j) e = absurd (each-in (λ y. f x ≢ f y) xs b h.0 j (ap f p ∙ e))
only-one f (x ∷ xs) h a b (inr i) (inl q) e = absurd (each-in (λ y. f x ≢ f y) xs a h.0 i (ap f q ∙ sym e))
only-one f (x ∷ xs) h a b (inr i) (inr j) e = only-one f xs h.1 a b i j e

-- Lists of which one element passes.

module _ {X : Type 0} (f : X → Bool) where
  none-passes : (xs : List X) → ((x : X) → In xs x → f x ≡ true → ⊥) → filter f xs ≡ []
  none-passes [] h = refl
  none-passes (x ∷ xs) h = go (f x) refl (none-passes xs (λ y i t. h y (inr i) t))
    where
      go : (b : Bool) → f x ≡ b → filter f xs ≡ [] → cond b (x ∷ filter f xs) (filter f xs) ≡ []
      go true e none = absurd (h x (inl refl) e)
      go false e none = none

  pub one-passes : (xs : List X) (c : X) → Apart (λ a b. a ≢ b) xs → In xs c → f c ≡ true → ((x : X) → In xs x → f x ≡ true → x ≡ c) → filter f xs ≡ c ∷ []
  one-passes [] c h i t only = absurd i
  one-passes (x ∷ xs) c h (inl p) t only = go (f x) (ap f p ∙ t)
    where
      others : filter f xs ≡ []
      others = none-passes xs (λ y i u. each-in (λ z. x ≢ z) xs y h.0 i (p ∙ sym (only y (inr i) u)))

      go : (b : Bool) → b ≡ true → cond b (x ∷ filter f xs) (filter f xs) ≡ c ∷ []
      go true e = (λ j. p j ∷ others j)
      go false e = cc
  one-passes (x ∷ xs) c h (inr i) t only = go (f x) refl (one-passes xs c h.1 i t (λ y j u. only y (inr j) u))
    where
      go : (b : Bool) → f x ≡ b → filter f xs ≡ c ∷ [] → cond b (x ∷ filter f xs) (filter f xs) ≡ c ∷ []
      go true e rest = absurd (each-in (λ z. x ≢ z) xs c h.0 i (only x (inl refl) e))
      go false e rest = rest

  -- what passes and is among all
  pub in-filter : (xs : List X) (x : X) → In xs x → f x ≡ true → In (filter f xs) x
  in-filter [] x h t = absurd h
  in-filter (y ∷ ys) x (inl e) t = go (f y) (ap f e ∙ t)
    where
      go : (b : Bool) → b ≡ true → In (cond b (y ∷ filter f ys) (filter f ys)) x
      go true q = inl e
      go false q = cc
  in-filter (y ∷ ys) x (inr h) t = go (f y) (in-filter ys x h t)
    where
      go : (b : Bool) → In (filter f ys) x → In (cond b (y ∷ filter f ys) (filter f ys)) x
      go true i = inr i
      go false i = i

  pub filter-true : (xs : List X) (x : X) → In (filter f xs) x → f x ≡ true
  filter-true [] x h = absurd h
  filter-true (y ∷ ys) x h = go (f y) refl (filter-true ys x) h
    where
      go : (b : Bool) → f y ≡ b → (In (filter f ys) x → f x ≡ true) → In (cond b (y ∷ filter f ys) (filter f ys)) x → f x ≡ true
      go true e more (inl q) = ap f (sym q) ∙ e
      go true e more (inr i) = more i
      go false e more i = more i
