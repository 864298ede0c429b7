-- Names that differ.
use Rattle.std.specs.Str.{bytes_eq}
use Rattle.std.proofs.Common.{◌≡◌, ◌∙◌, ℕ, true, false, List, sym}
use Rattle.std.proofs.lemmas.Slice.Eq.{bytes_eq-Decides}

pub apart : (a b : List ℕ) → bytes_eq a b ≡ false → b ≡ a → ⊥
apart a b e h = let q : true ≡ false = sym ((bytes_eq-Decides a b).1 (sym h)) ∙ e in cc
