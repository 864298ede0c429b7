-- Where the elements of instances stand, by numbers alone.
use Rattle.std.specs.Prelude.{ℕ, zero, suc, ◌+◌, List, [], ◌∷◌, ◌++◌}
use Rattle.rdl_layout.specs.declared.part.Mode.{Mode}
use Rattle.rdl_layout.specs.declared.part.Part.{Part}
use Rattle.rdl_layout.specs.Parts.{stride}

-- so many from the first on, each so far behind the one before it
abbrev pub elements : ℕ → ℕ → ℕ → List ℕ
elements at step zero = []
elements at step (suc k) = at ∷ elements (at + step) step k

-- those of all parts, which start here
abbrev pub element_starts : Mode → List Part → List ℕ → List ℕ
element_starts mode [] ss = []
element_starts mode (p ∷ ps) [] = []
element_starts mode (p ∷ ps) (s ∷ ss) = elements s (stride mode p) (p.others + 1) ++ element_starts mode ps ss
