-- Sizes, alignments and the instances of a body, of nodes with the nodes that they stand in.
use Rattle.std.specs.Prelude.{ℕ, ◌-◌, List, [], ◌∷◌, length}
use Rattle.rdl_values.specs.Instances.{Instance, most_names}
use Rattle.rdl_values.specs.Lineages.{Lineage}
use Rattle.rdl_addr.specs.Layout.{Mode, regalign, Group, access_of, groups, mode_in, size_of}

-- the mode in the body of the first of these nodes, each of which stands in the next one
unfoldable pub mode_under : List Instance → Mode
mode_under [] = regalign
mode_under (n ∷ ns) = mode_in (mode_under ns) n

-- how many levels may stand in the body of the last one
unfoldable pub levels : List Instance → ℕ
levels ancestors = most_names - length ancestors

-- the size of a node
unfoldable pub size_at : Lineage → ℕ
size_at l = size_of (levels l.ancestors) (mode_under l.ancestors) l.node

-- its access width, or the greatest inside it, in bytes
unfoldable pub access_at : Lineage → ℕ
access_at l = access_of (levels l.ancestors) l.node

-- the instances in its body
unfoldable pub groups_at : Lineage → List Group
groups_at l = groups (levels (l.node ∷ l.ancestors)) (mode_under l.ancestors) l.node
