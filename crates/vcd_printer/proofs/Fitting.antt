-- Values, one for each pin.
use Rattle.std.specs.List.{zip}
use Rattle.std.proofs.Common.{zero, suc, ◌≡◌, ℕ, ◌<◌, ◌≤◌, ◌^◌, List, [], ◌∷◌, length, slice_get, get_or, Some, None, refl, ap, subst, arith}
use Rattle.rb_base.specs.declared.ports.Pin.{Pin}
use Rattle.v_design.specs.Fits.{FitsPins}

pub as_many : (ps : List Pin) (xs : List ℕ) → FitsPins ps xs → length ps ≡ length xs
as_many [] [] f = refl
as_many (p ∷ ps) (x ∷ xs) f = ap suc (as_many ps xs f.1)
as_many [] (x ∷ xs) f = absurd f
as_many (p ∷ ps) [] f = absurd f

pub fits_at : (ps : List Pin) (xs : List ℕ) (i : ℕ) (p : Pin) → FitsPins ps xs → slice_get ps i ≡ Some p → get_or xs i 0 < 2 ^ p.width
fits_at [] xs i p f h = absurd (let q : None ≡ Some p = h in cc)
fits_at (q ∷ ps) [] i p f h = absurd f
fits_at (q ∷ ps) (x ∷ xs) zero p f h = let e : q ≡ p = cc in subst (λ z. x < 2 ^ z.width) e f.0
fits_at (q ∷ ps) (x ∷ xs) (suc i) p f h = fits_at ps xs i p f.1 h

pub zip_length : {Y : Type 0} (ps : List Pin) (ys : List Y) → length (zip ps ys) ≤ length ps
zip_length [] ys = omega arith
zip_length (p ∷ ps) [] = omega arith
zip_length (p ∷ ps) (y ∷ ys) = let l = zip_length ps ys in omega arith
