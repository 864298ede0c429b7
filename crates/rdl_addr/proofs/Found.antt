-- What is read from a table at a number.
use Rattle.std.proofs.Common.{◌≡◌, ◌∙◌, ℕ, zero, suc, ◌<◌, Some, List, [], ◌∷◌, length, get_or, slice_get, refl, sym, arith}

module _ {X : Type 0} where
  pub get-within : (xs : List X) (i : ℕ) (x : X) → slice_get xs i ≡ Some x → i < length xs
  get-within [] i x h = cc h
  get-within (y ∷ ys) zero x h = omega arith
  get-within (y ∷ ys) (suc i) x h = let l = get-within ys i x h in omega (arith, l)

  any-default : (xs : List X) (i : ℕ) (d e : X) → i < length xs → get_or xs i d ≡ get_or xs i e
  any-default [] i d e l = absurd (omega (arith, l))
  any-default (x ∷ xs) zero d e l = refl
  any-default (x ∷ xs) (suc i) d e l = any-default xs i d e (omega (arith, l))

  pub read : (xs : List X) (i : ℕ) (d x : X) → i < length xs → x ≡ get_or xs i x → get_or xs i d ≡ x
  read xs i d x l h = any-default xs i d x l ∙ sym h
