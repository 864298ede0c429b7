-- The words of a path, byte by byte.
use Rattle.std.proofs.Common.{◌≡◌, ◌∙◌, ℕ, Bool, true, false, cond, List, [], ◌∷◌, ◌++◌, filter, map, refl, ap}
use Rattle.std.specs.List.{onto_first, slice_split}
use Rattle.word_groups.specs.Paths.{behind}
use Rattle.c_header.specs.Names.{is_gap, is_word, upper, words}

-- what is left to write, within a word or not
abbrev pub left : Bool → List ℕ → List ℕ
left inside [] = []
left inside (b ∷ bs) = cond (is_gap (upper b)) (left false bs) (cond inside [] (95 ∷ []) ++ upper b ∷ left true bs)

-- pieces of which the first continues a word or not
abbrev pub written : Bool → List (List ℕ) → List ℕ
written inside [] = []
written true (p ∷ ps) = p ++ behind 95 (filter is_word ps)
written false (p ∷ ps) = behind 95 (filter is_word (p ∷ ps))

written-gap : (inside : Bool) (ps : List (List ℕ)) → written false ps ≡ written inside ([] ∷ ps)
written-gap true [] = refl
written-gap false [] = refl
written-gap true (p ∷ ps) = refl
written-gap false (p ∷ ps) = refl

written-byte : (inside : Bool) (b : ℕ) (ps : List (List ℕ)) → cond inside [] (95 ∷ []) ++ b ∷ written true ps ≡ written inside (onto_first b ps)
written-byte true b [] = refl
written-byte false b [] = refl
written-byte true b (p ∷ ps) = refl
written-byte false b (p ∷ ps) = refl

left-is : (inside : Bool) (bs : List ℕ) → left inside bs ≡ written inside (slice_split is_gap (map upper bs))
left-is true [] = refl
left-is false [] = refl
left-is inside (b ∷ bs) = go (is_gap (upper b)) (left-is false bs) (left-is true bs)
  where
    go : (c : Bool) → left false bs ≡ written false (slice_split is_gap (map upper bs)) → left true bs ≡ written true (slice_split is_gap (map upper bs))
        → cond c (left false bs) (cond inside [] (95 ∷ []) ++ upper b ∷ left true bs) ≡ written inside (cond c ([] ∷ slice_split is_gap (map upper bs)) (onto_first (upper b) (slice_split is_gap (map upper bs))))
    go true f t = f ∙ written-gap inside (slice_split is_gap (map upper bs))
    go false f t = ap (λ xs. cond inside [] (95 ∷ []) ++ upper b ∷ xs) t ∙ written-byte inside (upper b) (slice_split is_gap (map upper bs))

some_piece : (ps : List (List ℕ)) → written false ps ≡ behind 95 (filter is_word ps)
some_piece [] = refl
some_piece (p ∷ ps) = refl

pub left-words : (path : List ℕ) → left false path ≡ behind 95 (words path)
left-words path = left-is false path ∙ some_piece (slice_split is_gap (map upper path))
