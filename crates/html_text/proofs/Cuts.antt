-- The first item of a list and those behind it, as a loop reads them.
use Rattle.std.proofs.Common.{◌≡◌, ℕ, ◌-◌, ◌≤◌, List, [], ◌∷◌, drop, get_or, length, take, ap, sym, arith}
use Rattle.std.proofs.lemmas.Grind.{common_steps}

pub tail : {X : Type 0} (x : X) (xs : List X) → take (length (x ∷ xs) - 1) (drop 1 (x ∷ xs)) ≡ xs
tail x xs = grind (arith, common_steps)

pub first : {X : Type 0} (xs : List X) (d : X) → 1 ≤ length xs → xs ≡ get_or xs 0 d ∷ take (length xs - 1) (drop 1 xs)
first [] d l = absurd (omega (arith, l))
first (x ∷ xs) d l = ap (λ r. x ∷ r) (sym (tail x xs))
