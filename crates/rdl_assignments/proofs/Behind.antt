-- What stands before a place in a body.
use Rattle.std.proofs.Common.{◌≡◌, ◌∙◌, ℕ, zero, suc, ◌+◌, ◌<◌, List, [], ◌∷◌, ◌++◌, length, get_or, take, drop, map, filter, flat_map, append_assoc, append-nil, refl, sym, ap, subst, arith, below_more, length-append}
use Rattle.std.proofs.lemmas.Grind.{flat_map-append}
use Rattle.std.proofs.lemmas.List.{map-append, take-append-drop}
use Rattle.std.proofs.lemmas.List.Elements.{filter-append}
use Rattle.rdl_base.specs.declared.fault.Fault.{Fault}
use Rattle.rdl_values.specs.Bodies.{standing, standing_from}
use Rattle.rdl_values.specs.Parts.{is_empty}
use Rattle.rdl_layers.specs.Judged.{sound}
use Rattle.rdl_layers.specs.Meanings.{Assignment}
use Rattle.rdl_assignments.specs.Layers.{AreGiven}
use Rattle.rdl_assignments.specs.declared.set.ValidAssignment.{ValidAssignment}

standing_from-append : {A : Type 0} (before xs ys : List A) → standing_from before (xs ++ ys) ≡ standing_from before xs ++ standing_from (before ++ xs) ys
standing_from-append before [] ys = ap (λ b. standing_from b ys) (sym (append-nil before))
standing_from-append before (x ∷ xs) ys = ap (λ zs. (before, x) ∷ zs) (standing_from-append (before ++ (x ∷ [])) xs ys ∙ ap (λ b. standing_from (before ++ (x ∷ [])) xs ++ standing_from b ys) (append_assoc before (x ∷ []) xs))

-- the sound ones of the first are the first of the sound ones
pub sound-append : (f : List Assignment × Assignment → List Fault) (xs ys : List Assignment) → sound f (xs ++ ys) ≡ sound f xs ++ map (λ (x : List Assignment × Assignment). x.1) (filter (λ x. is_empty (f x)) (standing_from xs ys))
sound-append f xs ys =
    ap (λ zs. map (λ (x : List Assignment × Assignment). x.1) (filter (λ x. is_empty (f x)) zs)) (standing_from-append [] xs ys)
    ∙ ap (map (λ (x : List Assignment × Assignment). x.1)) (filter-append (λ x. is_empty (f x)) (standing xs) (standing_from xs ys))
    ∙ map-append (λ (x : List Assignment × Assignment). x.1) (filter (λ x. is_empty (f x)) (standing xs)) (filter (λ x. is_empty (f x)) (standing_from xs ys))

pub given-length : (body : ℕ) (gs : List ValidAssignment) (as' : List Assignment) → AreGiven body gs as' → length gs ≡ length as'
given-length body [] [] h = refl
given-length body (g ∷ gs) (a ∷ as') h = ap suc (given-length body gs as' h.1)
given-length body [] (a ∷ as') h = absurd h
given-length body (g ∷ gs) [] h = absurd h

given-front : (body : ℕ) (gs : List ValidAssignment) (as' bs : List Assignment) → AreGiven body gs (as' ++ bs) → AreGiven body (take (length as') gs) as'
given-front body gs [] bs h = tt
given-front body (g ∷ gs) (a ∷ as') bs h = (h.0, given-front body gs as' bs h.1)
given-front body [] (a ∷ as') bs h = absurd h

-- the same of what the items of a body assign, up to a place
pub given_behind : {I : Type 0} (f : List Assignment × Assignment → List Fault) (body : ℕ) (gs : List ValidAssignment) (g : List I × I → List Assignment) (xs : List I) (p n : ℕ) → AreGiven body gs (sound f (flat_map g (standing xs))) → n ≡ length (sound f (flat_map g (standing (take p xs))))
    → AreGiven body (take n gs) (sound f (flat_map g (standing (take p xs))))
given_behind f body gs g xs p n h e =
    let items : xs ≡ take p xs ++ drop p xs = sym (take-append-drop p xs) in
    let all : flat_map g (standing xs) ≡ flat_map g (standing (take p xs)) ++ flat_map g (standing_from (take p xs) (drop p xs)) = ap (λ ys. flat_map g (standing ys)) items ∙ ap (flat_map g) (standing_from-append [] (take p xs) (drop p xs)) ∙ flat_map-append g (standing (take p xs)) (standing_from (take p xs) (drop p xs)) in
    let parts = ap (sound f) all ∙ sound-append f (flat_map g (standing (take p xs))) (flat_map g (standing_from (take p xs) (drop p xs))) in
    subst (λ m. AreGiven body (take m gs) (sound f (flat_map g (standing (take p xs))))) (sym e) (given-front body gs (sound f (flat_map g (standing (take p xs)))) _ (subst (AreGiven body gs) parts h))

-- Counts by place.

get-front : (xs ys : List ℕ) (k : ℕ) → k < length xs → get_or (xs ++ ys) k 0 ≡ get_or xs k 0
get-front [] ys k l = absurd (omega (arith, l))
get-front (x ∷ xs) ys zero l = refl
get-front (x ∷ xs) ys (suc k) l = get-front xs ys k (omega (arith, l))

get-end : (xs : List ℕ) (v : ℕ) → get_or (xs ++ (v ∷ [])) (length xs) 0 ≡ v
get-end [] v = refl
get-end (x ∷ xs) v = get-end xs v

pub counted_more : (cs ds : List ℕ) (v i : ℕ) (f : ℕ → ℕ) → ds ≡ cs ++ (v ∷ []) → length cs ≡ i → ((p : ℕ) → p < i → get_or cs p 0 ≡ f p) → v ≡ f i → (p : ℕ) → p < i + 1 → get_or ds p 0 ≡ f p
counted_more cs ds v i f e l h hv =
    below_more (λ k. get_or ds k 0 ≡ f k) i
    (λ k kl. ap (λ xs. get_or xs k 0) e ∙ get-front cs (v ∷ []) k (omega (arith, kl, l)) ∙ h k kl)
    (ap (λ xs. get_or xs i 0) e ∙ ap (λ n. get_or (cs ++ (v ∷ [])) n 0) (sym l) ∙ get-end cs v ∙ hv)

pub counts_more : (cs ds : List ℕ) (v i : ℕ) → ds ≡ cs ++ (v ∷ []) → length cs ≡ i → length ds ≡ i + 1
counts_more cs ds v i e l = let n = length-append cs (v ∷ []) in let m : length ds ≡ length (cs ++ (v ∷ [])) = ap length e in omega (arith, l, n, m)
