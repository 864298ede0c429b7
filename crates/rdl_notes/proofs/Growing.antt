-- Lists made node by node.
use Rattle.std.proofs.Common.{◌≡◌, ◌∙◌, ℕ, ◌+◌, Bool, true, false, cond, List, [], ◌∷◌, ◌++◌, append-nil, append_assoc, map, flat_map, filter, fold, take, Some, slice_get, refl, sym, ap}
use Rattle.std.proofs.lemmas.Grind.{flat_map-append}
use Rattle.std.proofs.lemmas.List.{map-append}
use Rattle.plain_lemmas.proofs.Lists.{fold-push}
use Rattle.rdl_values.specs.Instances.{Instance}
use Rattle.rdl_fields.proofs.Lists.{filter-next}

module _ {X : Type 0} where
  pub put-none : (b : Bool) (ys old : List X) → b ≡ false → old ≡ old ++ cond b ys []
  put-none b ys old t = sym (append-nil old) ∙ ap (λ c. old ++ cond c ys []) (sym t)

  -- what is made of those that pass a test
  pub mapped-more : (g : Instance → X) (p : Instance → Bool) (ns : List Instance) (i : ℕ) (n : Instance) → slice_get ns i ≡ Some n → (begun old new : List X) → old ≡ begun ++ map g (filter p (take i ns)) → new ≡ old ++ cond (p n) (g n ∷ []) []
      → new ≡ begun ++ map g (filter p (take (i + 1) ns))
  mapped-more g p ns i n here begun old new before put =
      put
      ∙ ((λ j. before j ++ added (p n) j)
      ∙ (append_assoc begun (map g (filter p (take i ns))) (map g (cond (p n) (n ∷ []) []))
      ∙ ap (λ xs. begun ++ xs) (sym (map-append g (filter p (take i ns)) (cond (p n) (n ∷ []) [])) ∙ ap (map g) (sym (filter-next p ns i n here)))))
    where
      added : (b : Bool) → cond b (g n ∷ []) [] ≡ map g (cond b (n ∷ []) [])
      added true = refl
      added false = refl

  -- the lists that are made of them
  pub joined-more : (g : Instance → List X) (p : Instance → Bool) (ns : List Instance) (i : ℕ) (n : Instance) → slice_get ns i ≡ Some n → (old new : List X) → old ≡ flat_map g (filter p (take i ns)) → new ≡ old ++ cond (p n) (g n) [] → new ≡ flat_map g (filter p (take (i + 1) ns))
  joined-more g p ns i n here old new before put =
      put
      ∙ ((λ j. before j ++ added (p n) j)
      ∙ (sym (flat_map-append g (filter p (take i ns)) (cond (p n) (n ∷ []) [])) ∙ ap (flat_map g) (sym (filter-next p ns i n here))))
    where
      added : (b : Bool) → cond b (g n) [] ≡ flat_map g (cond b (n ∷ []) [])
      added true = sym (append-nil (g n))
      added false = refl

  -- what those become one after the other
  pub folded-more : (step : List X → X → List X) (g : Instance → X) (p : Instance → Bool) (ns : List Instance) (i : ℕ) (n : Instance) → slice_get ns i ≡ Some n → (old new : List X) → old ≡ fold step [] (map g (filter p (take i ns))) → new ≡ cond (p n) (step old (g n)) old
      → new ≡ fold step [] (map g (filter p (take (i + 1) ns)))
  folded-more step g p ns i n here old new before more =
      more
      ∙ ((λ j. cond (p n) (step (before j) (g n)) (before j))
      ∙ (added (p n)
      ∙ ap (fold step []) (sym (map-append g (filter p (take i ns)) (cond (p n) (n ∷ []) [])) ∙ ap (map g) (sym (filter-next p ns i n here)))))
    where
      xs : List X
      xs = map g (filter p (take i ns))

      added : (b : Bool) → cond b (step (fold step [] xs) (g n)) (fold step [] xs) ≡ fold step [] (xs ++ map g (cond b (n ∷ []) []))
      added true = sym (fold-push step [] xs (g n))
      added false = ap (fold step []) (sym (append-nil xs))
