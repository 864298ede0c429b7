-- A text that is cut, byte by byte.
use Rattle.std.proofs.Common.{◌≡◌, ◌∙◌, ℕ, Bool, true, false, cond, List, [], ◌∷◌, ◌++◌, append_assoc, append-nil, refl, sym, ap}
use Rattle.std.specs.List.{onto_first, slice_split}

-- bytes in front of the first piece
abbrev pub glued : List ℕ → List (List ℕ) → List (List ℕ)
glued xs [] = xs ∷ []
glued xs (p ∷ ps) = (xs ++ p) ∷ ps

glued-onto : (b : ℕ) (ps : List (List ℕ)) → glued [] (onto_first b ps) ≡ onto_first b ps
glued-onto b [] = refl
glued-onto b (p ∷ ps) = refl

pub glued-none : (f : ℕ → Bool) (bs : List ℕ) → glued [] (slice_split f bs) ≡ slice_split f bs
glued-none f [] = refl
glued-none f (b ∷ bs) = go (f b)
  where
    go : (c : Bool) → glued [] (cond c ([] ∷ slice_split f bs) (onto_first b (slice_split f bs))) ≡ cond c ([] ∷ slice_split f bs) (onto_first b (slice_split f bs))
    go true = refl
    go false = glued-onto b (slice_split f bs)

pub glued-byte : (xs : List ℕ) (b : ℕ) (ps : List (List ℕ)) → glued xs (onto_first b ps) ≡ glued (xs ++ b ∷ []) ps
glued-byte xs b [] = refl
glued-byte xs b (p ∷ ps) = ap (λ ys. ys ∷ ps) (sym (append_assoc xs (b ∷ []) p))

pub gap_step : (f : ℕ → Bool) (done : List (List ℕ)) (piece : List ℕ) (b : ℕ) (bs : List ℕ) → f b ≡ true
    → (done ++ piece ∷ []) ++ glued [] (slice_split f bs) ≡ done ++ glued piece (slice_split f (b ∷ bs))
gap_step f done piece b bs t = append_assoc done (piece ∷ []) (glued [] (slice_split f bs)) ∙ ap (λ ps. done ++ piece ∷ ps) (glued-none f bs) ∙ ap (λ p. done ++ p ∷ slice_split f bs) (sym (append-nil piece))
    ∙ ap (λ c. done ++ glued piece (cond c ([] ∷ slice_split f bs) (onto_first b (slice_split f bs)))) (sym t)

pub byte_step : (f : ℕ → Bool) (done : List (List ℕ)) (piece : List ℕ) (b : ℕ) (bs : List ℕ) → f b ≡ false
    → done ++ glued (piece ++ b ∷ []) (slice_split f bs) ≡ done ++ glued piece (slice_split f (b ∷ bs))
byte_step f done piece b bs t = ap (λ ps. done ++ ps) (sym (glued-byte piece b (slice_split f bs))) ∙ ap (λ c. done ++ glued piece (cond c ([] ∷ slice_split f bs) (onto_first b (slice_split f bs)))) (sym t)
