-- Steps of loops over lists.
use Rattle.std.proofs.Common.{◌≡◌, ◌∙◌, ℕ, zero, suc, ◌+◌, ◌<◌, ◌≤◌, ◌⊎◌, inl, inr, Bool, true, false, cond, List, [], ◌∷◌, ◌++◌, length, filter, take, drop, get_or, slice_get, Some, unwrap_or, Option, refl, sym, ap, subst, arith}
use Rattle.std.proofs.lemmas.List.{take_more}
use Rattle.rdl_values.specs.Values.{Around, number_of}
use Rattle.rdl_tree.specs.declared.expr.Expr.{Expr}
use Rattle.rdl_layers.specs.Phase4.{first_or}
use Rattle.rdl_layers.specs.Settings.{given}
use Rattle.rdl_addr.specs.TextReadings.{numbers_in}
use Rattle.rdl_nodes.proofs.Members.{any-default, get-read, get-within}
use Rattle.rdl_sizes.proofs.Turns.{drop-at, read-at}

module _ {X : Type 0} (P : X → Type 0) where
  pub one-more : (xs : List X) (i : ℕ) (x : X) → i < length xs → P (get_or xs i x) → ((k : ℕ) (d : X) → k < i → P (get_or xs k d)) → (k : ℕ) (d : X) → k < i + 1 → P (get_or xs k d)
  one-more xs i x low here before k d l = by (split k l)
    where
      split : (k : ℕ) → k < i + 1 → (k ≡ i) ⊎ (k < i)
      split k l = grind (arith, l)

      by : (k ≡ i) ⊎ (k < i) → P (get_or xs k d)
      by (inr m) = before k d m
      by (inl e) = subst (λ j. P (get_or xs j d)) (sym e) (subst P (any-default xs i x d low) here)

first-append : (xs ys : List ℕ) (d : ℕ) → first_or (xs ++ ys) d ≡ first_or xs (first_or ys d)
first-append [] ys d = refl
first-append (x ∷ xs) ys d = refl

pub number-here : (env : Around) (es : List Expr) (i : ℕ) (x : Expr) (before after : Option ℕ) → i < length es → x ≡ get_or es i x → ((d : ℕ) → unwrap_or after d ≡ first_or (given (number_of env x)) (unwrap_or before d))
    → ((d : ℕ) → first_or (numbers_in env (drop (suc i) es)) d ≡ unwrap_or before d) → (d : ℕ) → first_or (numbers_in env (drop i es)) d ≡ unwrap_or after d
number-here env es i x before after low read step h d =
    ap (λ l. first_or (numbers_in env l) d) (drop-at es i x (read-at es i x low read))
    ∙ (first-append (given (number_of env x)) (numbers_in env (drop (suc i) es)) d ∙ (ap (first_or (given (number_of env x))) (h d) ∙ sym (step d)))

module _ {X : Type 0} (p : X → Bool) where
  pub filter-one : (x : X) → filter p (x ∷ []) ≡ cond (p x) (x ∷ []) []
  filter-one x = refl

  filter-join : (xs ys : List X) → filter p (xs ++ ys) ≡ filter p xs ++ filter p ys
  filter-join [] ys = refl
  filter-join (x ∷ xs) ys = go (p x) (filter-join xs ys)
    where
      go : (b : Bool) → filter p (xs ++ ys) ≡ filter p xs ++ filter p ys → cond b (x ∷ filter p (xs ++ ys)) (filter p (xs ++ ys)) ≡ cond b (x ∷ filter p xs) (filter p xs) ++ filter p ys
      go true e = ap (λ l. x ∷ l) e
      go false e = e

  pub filter-next : (xs : List X) (i : ℕ) (x : X) → slice_get xs i ≡ Some x → filter p (take (i + 1) xs) ≡ filter p (take i xs) ++ cond (p x) (x ∷ []) []
  filter-next xs i x at =
      let low = get-within xs i x at in
      ap (filter p) (take_more xs i x low ∙ ap (λ y. take i xs ++ (y ∷ [])) (get-read xs i x x at)) ∙ filter-join (take i xs) (x ∷ [])

  pub filter-all : (xs : List X) (i : ℕ) → length xs ≤ i → filter p (take i xs) ≡ filter p xs
  filter-all [] zero l = refl
  filter-all [] (suc i) l = refl
  filter-all (x ∷ xs) zero l = absurd (omega (arith, l))
  filter-all (x ∷ xs) (suc i) l = ap (λ ys. cond (p x) (x ∷ ys) ys) (filter-all xs i (omega (arith, l)))
