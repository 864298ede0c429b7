-- Numbers that do not fall.
use Rattle.std.proofs.Common.{◌≡◌, ℕ, zero, suc, ◌<◌, ◌≤◌, List, [], ◌∷◌, get_or, length, map, refl, sym, subst, arith}
use Rattle.std.specs.List.Sorted.{IsNonDecreasing, IsNonDecreasingBy}

get-mapped : {X : Type 0} (f : X → ℕ) (xs : List X) (i d : ℕ) (e : X) → i < length xs → get_or (map f xs) i d ≡ f (get_or xs i e)
get-mapped f [] i d e l = absurd (omega (arith, l))
get-mapped f (x ∷ xs) zero d e l = refl
get-mapped f (x ∷ xs) (suc i) d e l = get-mapped f xs i d e (omega (arith, l))

length-mapped : {X : Type 0} (f : X → ℕ) (xs : List X) → length (map f xs) ≡ length xs
length-mapped f [] = refl
length-mapped f (x ∷ xs) = (let rest = length-mapped f xs in omega (arith, rest))

pub mapped-up : {X : Type 0} (f : X → ℕ) (xs : List X) → IsNonDecreasingBy f xs → IsNonDecreasing (map f xs)
mapped-up f [] h = λ i j d l m. absurd (omega (arith, m))
mapped-up f (x ∷ xs) h = λ i j d l m.
    let many = length-mapped f (x ∷ xs) in
    let in_j : j < length (x ∷ xs) = omega (arith, m, many) in
    let in_i : i < length (x ∷ xs) = omega (arith, in_j, l) in
    subst (λ n. n ≤ get_or (map f (x ∷ xs)) j d) (sym (get-mapped f (x ∷ xs) i d x in_i)) (subst (λ n. f (get_or (x ∷ xs) i x) ≤ n) (sym (get-mapped f (x ∷ xs) j d x in_j)) (h i j x l in_j))
