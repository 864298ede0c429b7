-- The nearest of bodies, and of bodies behind them.
use Rattle.std.proofs.Common.{◌≡◌, List, [], ◌∷◌, ◌++◌, Option, None, Some, refl}
use Rattle.std.specs.Option.{option_or}
use Rattle.rdl_values.specs.Values.{nearest}

pub nearest_append : {A B : Type 0} (f : A → Option B) (xs ys : List A) → nearest f (xs ++ ys) ≡ option_or (nearest f xs) (nearest f ys)
nearest_append f [] ys = refl
nearest_append f (x ∷ xs) ys = go (f x) (nearest_append f xs ys)
  where
    go : (o : Option _) → nearest f (xs ++ ys) ≡ option_or (nearest f xs) (nearest f ys) → option_or o (nearest f (xs ++ ys)) ≡ option_or (option_or o (nearest f xs)) (nearest f ys)
    go None k = k
    go (Some y) k = refl
