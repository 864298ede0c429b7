-- How much stands after the last element that passes a test.
use Rattle.std.proofs.Common.{◌≡◌, Bool, not, List, length, arith, length-drop}
use Rattle.std.specs.List.{after_last, suffix_len}
use Rattle.std.proofs.lemmas.List.Sums.{suffix_len-le-length}

pub length_after_last : {X : Type 0} (p : X → Bool) (xs : List X) → length (after_last p xs) ≡ suffix_len (λ x. not (p x)) xs
length_after_last p xs =
    let bound = suffix_len-le-length (λ x. not (p x)) xs in
    simp length-drop (omega arith)
