-- Texts of paths, joined step by step.
use Rattle.std.proofs.Common.{◌≡◌, ◌∙◌, ℕ, ◌+◌, ◌<◌, ◌≤◌, List, [], ◌∷◌, ◌++◌, append_assoc, append-nil, decimal, flat_map, get_or, length, map, take, refl, sym, ap}
use Rattle.std.specs.List.{join_with_byte}
use Rattle.std.proofs.lemmas.Grind.{flat_map-append}
use Rattle.std.proofs.lemmas.List.{take_all, take_more}
use Rattle.rdl_values.specs.Bodies.{Step}
use Rattle.rdl_values.specs.Paths.{joined, words_of}
use Rattle.rdl_block_numbers.specs.Texts.{indexed, step_text}

-- one index more
pub more-text : (front : List ℕ) (name : List ℕ) (index : List ℕ) (i d : ℕ) → i < length index → (old mid new : List ℕ) → old ≡ front ++ step_text name (take i index) → new ≡ old ++ (36 ∷ decimal (get_or index i d)) → new ≡ front ++ step_text name (take (i + 1) index)
more-text front name index i d low old mid new before put =
    put
    ∙ (ap (λ xs. xs ++ (36 ∷ decimal (get_or index i d))) before
    ∙ (append_assoc front (name ++ indexed (take i index)) (36 ∷ decimal (get_or index i d))
    ∙ ap (λ xs. front ++ xs) (append_assoc name (indexed (take i index)) (36 ∷ decimal (get_or index i d))
    ∙ ap (λ xs. name ++ xs) (
    ap (λ xs. indexed (take i index) ++ xs) (sym (append-nil (36 ∷ decimal (get_or index i d))))
    ∙ (sym (flat_map-append (λ j. 36 ∷ decimal j) (take i index) (get_or index i d ∷ [])) ∙ ap indexed (sym (take_more index i d low)))
    ))))

pub all-text : (front name index : List ℕ) (i : ℕ) → length index ≤ i → (new : List ℕ) → new ≡ front ++ step_text name (take i index) → new ≡ front ++ step_text name index
all-text front name index i past new h = h ∙ ap (λ xs. front ++ step_text name xs) (take_all i index past)

-- Joining.

indices : (name : List ℕ) (index : List ℕ) → join_with_byte 36 (name ∷ map decimal index) ≡ step_text name index
indices name [] = sym (append-nil name)
indices name (i ∷ is) = ap (λ xs. name ++ (36 ∷ xs)) (indices (decimal i) is)

joined-behind : (x : List ℕ) (xs : List (List ℕ)) (y : List ℕ) (ys : List (List ℕ)) → join_with_byte 36 ((x ∷ xs) ++ (y ∷ ys)) ≡ join_with_byte 36 (x ∷ xs) ++ (36 ∷ join_with_byte 36 (y ∷ ys))
joined-behind x [] y ys = refl
joined-behind x (z ∷ zs) y ys = ap (λ l. x ++ (36 ∷ l)) (joined-behind z zs y ys) ∙ sym (append_assoc x (36 ∷ join_with_byte 36 (z ∷ zs)) (36 ∷ join_with_byte 36 (y ∷ ys)))

pub one-step : (s : Step) → joined (s ∷ []) ≡ step_text s.name s.index
one-step s = ap (join_with_byte 36) (append-nil (words_of s)) ∙ indices s.name s.index

pub step-behind : (t : Step) (ts : List Step) (s : Step) → joined ((t ∷ ts) ++ (s ∷ [])) ≡ joined (t ∷ ts) ++ (36 ∷ step_text s.name s.index)
step-behind t ts s =
    ap (join_with_byte 36) (flat_map-append words_of (t ∷ ts) (s ∷ []) ∙ ap (λ l. flat_map words_of (t ∷ ts) ++ l) (append-nil (words_of s)))
    ∙ (joined-behind t.name (map decimal t.index ++ flat_map words_of ts) s.name (map decimal s.index)
    ∙ ap (λ l. joined (t ∷ ts) ++ (36 ∷ l)) (indices s.name s.index))
