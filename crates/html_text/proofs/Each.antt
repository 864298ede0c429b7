-- The texts of the items of a list, one behind the other, as a loop writes them.
use Rattle.std.specs.List.{enumerate_from, flat_map}
use Rattle.std.proofs.Common.{zero, suc, ◌≡◌, ℕ, ◌+◌, ◌<◌, ◌≤◌, List, [], ◌∷◌, ◌++◌, length, take, slice_get, get_or, Some, None, refl, ap, sym, ◌∙◌, arith, append_assoc, append-nil, add-one}
use Rattle.plain_lemmas.proofs.Lists.{get-at}

module _ {X : Type 0} where
  -- the item that a loop reads
  pub read : (xs : List X) (i : ℕ) (x : X) → i < length xs → x ≡ get_or xs i x → slice_get xs i ≡ Some x
  read xs i x p e = get-at xs i x p ∙ ap Some (sym e)

  module _ (f : X → List ℕ) where
    more_by : (xs : List X) (i : ℕ) (x : X) → slice_get xs i ≡ Some x → flat_map f (take (suc i) xs) ≡ flat_map f (take i xs) ++ f x
    more_by [] i x h = absurd (let q : None ≡ Some x = h in cc)
    more_by (y ∷ xs) zero x h = let q : y ≡ x = cc in append-nil (f y) ∙ ap f q
    more_by (y ∷ xs) (suc i) x h = ap (λ l. f y ++ l) (more_by xs i x h) ∙ sym (append_assoc (f y) (flat_map f (take i xs)) (f x))

    -- one item more
    pub more : (xs : List X) (i : ℕ) (x : X) → slice_get xs i ≡ Some x → flat_map f (take i xs) ++ f x ≡ flat_map f (take (i + 1) xs)
    more xs i x h = sym (more_by xs i x h) ∙ ap (λ n. flat_map f (take n xs)) (sym (add-one i))

    -- no item more
    pub last : (xs : List X) (i : ℕ) → length xs ≤ i → flat_map f (take i xs) ≡ flat_map f xs
    last [] zero p = refl
    last [] (suc i) p = refl
    last (y ∷ xs) zero p = absurd (omega arith)
    last (y ∷ xs) (suc i) p = ap (λ l. f y ++ l) (last xs i (omega (arith, p)))

  numbered_from : (k : ℕ) (xs : List X) (i : ℕ) (x : X) → slice_get xs i ≡ Some x → slice_get (enumerate_from k xs) i ≡ Some (k + i, x)
  numbered_from k [] i x h = absurd (let q : None ≡ Some x = h in cc)
  numbered_from k (y ∷ xs) zero x h = let q : y ≡ x = cc in ap (λ z. Some (z, y)) (omega arith) ∙ ap (λ z. Some (k + 0, z)) q
  numbered_from k (y ∷ xs) (suc i) x h = numbered_from (k + 1) xs i x h ∙ ap (λ z. Some (z, x)) (omega arith)

  -- an item with its number
  pub numbered : (xs : List X) (i : ℕ) (x : X) → slice_get xs i ≡ Some x → slice_get (enumerate_from 0 xs) i ≡ Some (i, x)
  numbered xs i x h = numbered_from 0 xs i x h ∙ ap (λ z. Some (z, x)) (omega arith)

  pub numbered_length : (k : ℕ) (xs : List X) → length (enumerate_from k xs) ≡ length xs
  numbered_length k [] = refl
  numbered_length k (x ∷ xs) = ap suc (numbered_length (k + 1) xs)
