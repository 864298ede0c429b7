-- What only an interrupt has.
use Rattle.std.proofs.Common.{◌≡◌, Bool, true, false, ◌||◌, refl}

pub in-list : (a b c d e f : Bool) → (a || b || c || d || e || f) ≡ (a || (b || (c || (d || (e || (f || false))))))
in-list true b c d e f = refl
in-list false true c d e f = refl
in-list false false true d e f = refl
in-list false false false true e f = refl
in-list false false false false true f = refl
in-list false false false false false true = refl
in-list false false false false false false = refl
