-- Two lists of which the elements belong together by their places.
use Rattle.std.proofs.Common.{◌≡◌, ℕ, ◌+◌, ◌<◌, ◌≤◌, Some, List, [], ◌∷◌, ◌++◌, length, get_or, slice_get, refl, sym, ap, ◌∙◌, subst, ◌⊎◌, inl, inr, arith}
use Rattle.std.proofs.lemmas.Option.{slice_get_read, slice_get_within, same_Some}
use Rattle.plain_lemmas.proofs.Lists.{get-front_of as front, get-last as last}

-- an element of a list that gets more

-- one element more of each of two lists
pub paired_more : {X Y : Type 0} (R : ℕ → X → Y → Type 0) (xs : List X) (i : ℕ) (x : X) (ys ys' : List Y) (y : Y) → i < length xs → x ≡ get_or xs i x → length ys ≡ i → ys' ≡ ys ++ y ∷ [] → R i x y
    → ((k : ℕ) (z : X) → k < i → slice_get xs k ≡ Some z → (w : Y) × (slice_get ys k ≡ Some w) × R k z w)
    → (k : ℕ) (z : X) → k < i + 1 → slice_get xs k ≡ Some z → (w : Y) × (slice_get ys' k ≡ Some w) × R k z w
paired_more {X} {Y} R xs i x ys ys' y low is sized pushed r before k z l here = by (same_or_below k i l)
  where
    same_or_below : (k i : ℕ) → k < i + 1 → (k ≡ i) ⊎ (k < i)
    same_or_below k i l = grind arith

    by : (k ≡ i) ⊎ (k < i) → (w : Y) × (slice_get ys' k ≡ Some w) × R k z w
    by (inl e) =
        let at : slice_get xs i ≡ Some x = slice_get_read xs (length xs) i x refl low is in
        let same : x ≡ z = same_Some x z (sym at ∙ (ap (slice_get xs) (sym e) ∙ here)) in
        (y, ap (λ vs. slice_get vs k) pushed ∙ subst (λ m. slice_get (ys ++ y ∷ []) m ≡ Some y) (sized ∙ sym e) (last ys y), subst (λ m. R m z y) (sym e) (subst (λ v. R i v y) same r))
    by (inr b) = let (w, there, rel) = before k z b here in (w, ap (λ vs. slice_get vs k) pushed ∙ front ys (y ∷ []) w k there, rel)

pub paired_all : {X Y : Type 0} (R : ℕ → X → Y → Type 0) (xs : List X) (i : ℕ) (ys : List Y) → length xs ≤ i → ((k : ℕ) (z : X) → k < i → slice_get xs k ≡ Some z → (w : Y) × (slice_get ys k ≡ Some w) × R k z w)
    → (k : ℕ) (z : X) → slice_get xs k ≡ Some z → (w : Y) × (slice_get ys k ≡ Some w) × R k z w
paired_all R xs i ys past h k z here = let low : k < length xs = slice_get_within xs k z here in h k z (omega (arith, low, past)) here
