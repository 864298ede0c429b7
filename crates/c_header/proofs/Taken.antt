-- What the first elements of a list make, where one more comes.
use Rattle.std.proofs.Common.{◌≡◌, ◌∙◌, ℕ, ◌+◌, List, [], ◌∷◌, ◌++◌, append-nil, append_assoc, flat_map, map, take, Some, slice_get, sym, ap}
use Rattle.std.proofs.lemmas.List.{take_more}
use Rattle.std.proofs.lemmas.List.Concat.{flat_map-append}
use Rattle.std.proofs.lemmas.Option.{get_or_from_slice_get}
use Rattle.plain_lemmas.proofs.Lists.{get-within, map-append}

taken-more : {X : Type 0} (xs : List X) (i : ℕ) (x : X) → slice_get xs i ≡ Some x → take (i + 1) xs ≡ take i xs ++ x ∷ []
taken-more xs i x at = take_more xs i x (get-within xs i x at) ∙ ap (λ y. take i xs ++ y ∷ []) (get_or_from_slice_get xs i x x at)

mapped-more : {X Y : Type 0} (f : X → Y) (xs : List X) (i : ℕ) (x : X) → slice_get xs i ≡ Some x → map f (take (i + 1) xs) ≡ map f (take i xs) ++ f x ∷ []
mapped-more f xs i x at = ap (map f) (taken-more xs i x at) ∙ map-append f (take i xs) (x ∷ [])

-- a list that each element adds one to
pub map-step : {X Y : Type 0} (f : X → Y) (xs : List X) (i : ℕ) (x : X) (start old new : List Y) → slice_get xs i ≡ Some x
    → old ≡ start ++ map f (take i xs) → new ≡ old ++ f x ∷ [] → new ≡ start ++ map f (take (i + 1) xs)
map-step f xs i x start old new at is more =
    more ∙ ap (λ ys. ys ++ f x ∷ []) is ∙ append_assoc start (map f (take i xs)) (f x ∷ []) ∙ ap (λ ys. start ++ ys) (sym (mapped-more f xs i x at))

-- and one that what is made of each adds something to
pub flat-map-step : {X Y Z : Type 0} (g : Y → List Z) (f : X → Y) (xs : List X) (i : ℕ) (x : X) (start old new : List Z) → slice_get xs i ≡ Some x
    → old ≡ start ++ flat_map g (map f (take i xs)) → new ≡ old ++ g (f x) → new ≡ start ++ flat_map g (map f (take (i + 1) xs))
flat-map-step g f xs i x start old new at is more =
    let before = map f (take i xs) in
    more ∙ ap (λ ys. ys ++ g (f x)) is ∙ append_assoc start (flat_map g before) (g (f x))
    ∙ ap (λ ys. start ++ ys) (sym (ap (flat_map g) (mapped-more f xs i x at) ∙ flat_map-append g before (f x ∷ []) ∙ ap (λ ys. flat_map g before ++ ys) (append-nil (g (f x)))))
