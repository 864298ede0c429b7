-- Nets that have a place, as they are found one after the other.
use Rattle.std.specs.Str.{bytes_eq}
use Rattle.std.specs.List.{AllZip, slice_get}
use Rattle.std.proofs.Common.{◌≡◌, ℕ, zero, suc, ◌<◌, Bool, true, false, if◌then◌else◌, Option, Some, List, [], ◌∷◌, ◌++◌, length, take, get_or, refl, sym, ◌∙◌, ◌⊎◌, inl, inr, arith}
use Rattle.cyc_sim.specs.declared.listing.Wire.{Wire}
use Rattle.plain_lemmas.proofs.Lists.{bytes_eq-same as same_bytes}

-- a net that has a place is the last one, or had a place before
pub known_or_last : (old : Option Wire) (new : Option Wire) (text name : List ℕ) (wire w : Wire) → new ≡ (if bytes_eq text name then Some wire else old) → new ≡ Some w → ((text ≡ name) × (w ≡ wire)) ⊎ (old ≡ Some w)
known_or_last old new text name wire w is at = go (bytes_eq text name) refl (sym is ∙ at)
  where
    go : (b : Bool) → bytes_eq text name ≡ b → (if b then Some wire else old) ≡ Some w → ((text ≡ name) × (w ≡ wire)) ⊎ (old ≡ Some w)
    go true e h = inl (same_bytes text name e, cc)
    go false e h = inr h

-- elements of a front

pub front_last : {A : Type 0} (xs : List A) (i : ℕ) (d : A) → i < length xs → slice_get (take (suc i) xs) i ≡ Some (get_or xs i d)
front_last [] i d l = absurd (omega (arith, l))
front_last (x ∷ xs) zero d l = refl
front_last (x ∷ xs) (suc i) d l = front_last xs i d (omega (arith, l))

pub front_cases : {A : Type 0} (xs : List A) (n i : ℕ) (x : A) → slice_get (take (suc n) xs) i ≡ Some x → (slice_get (take n xs) i ≡ Some x) ⊎ (slice_get xs n ≡ Some x)
front_cases [] n i x h = cc h
front_cases (y ∷ ys) zero zero x h = inr h
front_cases (y ∷ ys) zero (suc i) x h = cc h
front_cases (y ∷ ys) (suc n) zero x h = inl h
front_cases (y ∷ ys) (suc n) (suc i) x h = front_cases ys n i x h

-- one more of each of two lists
pub AllZip-pushed : {A B : Type 0} (R : A → B → Type 0) (xs : List A) (ys : List B) (x : A) (y : B) → AllZip R xs ys → R x y → AllZip R (xs ++ (x ∷ [])) (ys ++ (y ∷ []))
AllZip-pushed R [] [] x y h k = (k, tt)
AllZip-pushed R [] (z ∷ zs) x y h k = absurd h
AllZip-pushed R (z ∷ zs) [] x y h k = absurd h
AllZip-pushed R (z ∷ zs) (u ∷ us) x y h k = (h.0, AllZip-pushed R zs us x y h.1 k)
