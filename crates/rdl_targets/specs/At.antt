-- Instances by their numbers.
use Rattle.std.specs.Prelude.{◌≡◌, ℕ, List, [], ◌∷◌, Some, option_map, slice_get}
use Rattle.rdl_tree.specs.declared.node.Node.{Node, out-Node}
use Rattle.rdl_values.specs.Instances.{Instance}
use Rattle.rdl_values.specs.Lineages.{Lineage}

-- the instance of this number
abbrev pub IsAt : List Lineage → ℕ → Instance → Type 0
IsAt all k n = option_map (λ l. l.node) (slice_get all k) ≡ Some n

-- the instances of these numbers, one by one
abbrev pub AreAt : List Lineage → List ℕ → List Instance → Type 0
AreAt all [] [] = Unit {0}
AreAt all (k ∷ ks) (n ∷ ns) = IsAt all k n × AreAt all ks ns
AreAt all _ _ = ⊥

-- the number of a node
abbrev pub id_of : Node → ℕ
id_of r = (out-Node r).id
