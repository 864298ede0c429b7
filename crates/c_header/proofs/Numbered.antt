-- What numbered elements make, where one has more come.
use Rattle.std.proofs.Common.{◌≡◌, ◌∙◌, ℕ, ◌+◌, ◌<◌, List, [], ◌∷◌, ◌++◌, append_assoc, append-nil, flat_map, get_or, length, map, take, sym, ap}
use Rattle.std.specs.List.{enumerate_from}
use Rattle.std.proofs.lemmas.List.{take_more}
use Rattle.std.proofs.lemmas.List.Concat.{flat_map-append}
use Rattle.rb_model.proofs.PortLists.{flat_map-numbered}
use Rattle.word_groups.proofs.AtEach.{map-more}
use Rattle.plain_lemmas.proofs.Lists.{any-default}

-- a list that each element adds something to
pub flat-more : {X Y Z : Type 0} (g : Y → List Z) (f : ℕ × X → Y) (xs : List X) (i : ℕ) (x : X) (start old new : List Z) → i < length xs → x ≡ get_or xs i x
    → old ≡ start ++ flat_map g (map f (enumerate_from 0 (take i xs))) → new ≡ old ++ g (f (i, x)) → new ≡ start ++ flat_map g (map f (enumerate_from 0 (take (i + 1) xs)))
flat-more g f xs i x start old new low at is more =
    let before = map f (enumerate_from 0 (take i xs)) in
    more ∙ ap (λ ys. ys ++ g (f (i, x))) is ∙ append_assoc start (flat_map g before) (g (f (i, x)))
    ∙ ap (λ ys. start ++ ys) (sym (ap (flat_map g) (map-more f xs i x low at) ∙ flat_map-append g before (f (i, x) ∷ []) ∙ ap (λ ys. flat_map g before ++ ys) (append-nil (g (f (i, x))))))

pub added-more : {X Z : Type 0} (f : ℕ × X → List Z) (xs : List X) (i : ℕ) (x : X) (start old new : List Z) → i < length xs → x ≡ get_or xs i x
    → old ≡ start ++ flat_map f (enumerate_from 0 (take i xs)) → new ≡ old ++ f (i, x) → new ≡ start ++ flat_map f (enumerate_from 0 (take (i + 1) xs))
added-more f xs i x start old new low at is more =
    more ∙ ap (λ ys. ys ++ f (i, x)) is ∙ append_assoc start (flat_map f (enumerate_from 0 (take i xs))) (f (i, x))
    ∙ ap (λ ys. start ++ ys) (sym (flat_map-numbered f xs i x low at))

-- the same, of numbers

same-number : (xs : List ℕ) (i : ℕ) → i < length xs → get_or xs i 0 ≡ get_or xs i (get_or xs i 0)
same-number xs i low = any-default xs i 0 (get_or xs i 0) low

pub added-number : {Z : Type 0} (f : ℕ × ℕ → List Z) (xs : List ℕ) (i : ℕ) (start old new : List Z) → i < length xs
    → old ≡ start ++ flat_map f (enumerate_from 0 (take i xs)) → new ≡ old ++ f (i, get_or xs i 0) → new ≡ start ++ flat_map f (enumerate_from 0 (take (i + 1) xs))
added-number f xs i start old new low is more = added-more f xs i (get_or xs i 0) start old new low (same-number xs i low) is more

pub flat-number : {Y Z : Type 0} (g : Y → List Z) (f : ℕ × ℕ → Y) (xs : List ℕ) (i : ℕ) (start old new : List Z) → i < length xs
    → old ≡ start ++ flat_map g (map f (enumerate_from 0 (take i xs))) → new ≡ old ++ g (f (i, get_or xs i 0)) → new ≡ start ++ flat_map g (map f (enumerate_from 0 (take (i + 1) xs)))
flat-number g f xs i start old new low is more = flat-more g f xs i (get_or xs i 0) start old new low (same-number xs i low) is more

-- elements without numbers
pub flat-step : {X Z : Type 0} (f : X → List Z) (xs : List X) (i : ℕ) (x : X) (start old new : List Z) → i < length xs → x ≡ get_or xs i x
    → old ≡ start ++ flat_map f (take i xs) → new ≡ old ++ f x → new ≡ start ++ flat_map f (take (i + 1) xs)
flat-step f xs i x start old new low at is more =
    let before = flat_map f (take i xs) in
    more ∙ ap (λ ys. ys ++ f x) is ∙ append_assoc start before (f x)
    ∙ ap (λ ys. start ++ ys) (sym (ap (flat_map f) (take_more xs i x low ∙ ap (λ y. take i xs ++ y ∷ []) (sym at)) ∙ flat_map-append f (take i xs) (x ∷ []) ∙ ap (λ ys. before ++ ys) (append-nil (f x))))
