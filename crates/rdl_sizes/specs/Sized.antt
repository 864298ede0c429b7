-- Sizes and offsets, node by node.
use Rattle.std.specs.Prelude.{◌≡◌, ◌↔◌, ℕ, ◌≤◌, ◌<◌, true, List, ◌∷◌, ◌++◌, length, flat_map, drop, Some, Contains, slice_get, slice_index_or}
use Rattle.std.specs.List.{All}
use Rattle.rdl_base.specs.declared.fault.Fault.{Fault}
use Rattle.rdl_tree.specs.declared.node.Elab.{Elab}
use Rattle.rdl_values.specs.Instances.{Instance}
use Rattle.rdl_values.specs.Lineages.{Lineage, child_of, lineages_of}
use Rattle.rdl_addr.specs.Layout.{has_address, offsets}
use Rattle.rdl_addr.specs.Rules.{no_alignment, small_stride}
use Rattle.rdl_sizes.specs.declared.known.Measure.{Measure}
use Rattle.rdl_sizes.specs.declared.known.Sizes.{Sizes}
use Rattle.rdl_sizes.specs.Levels.{access_at, groups_at, mode_under, size_at}

-- what a table has for a node
abbrev pub measure_at : List Measure → ℕ → Measure
measure_at ms k = slice_index_or ms k (record { size = 0; access = 1 })

abbrev pub offset_at : List ℕ → ℕ → ℕ
offset_at os k = slice_index_or os k 0

-- the size and the access width of a node
pub record IsMeasure (m : Measure) (l : Lineage) : Type 0 where
  pub size_ : m.size ≡ size_at l
  pub access_ : m.access ≡ access_at l

-- where a node stands in the one whose body it is in, from that one's start
unfoldable pub IsOffset : Lineage → Instance → ℕ → Type 0
IsOffset l c at = Contains (offsets (mode_under (l.node ∷ l.ancestors)) (groups_at l)) (c, at)

-- the failures of A1 and A2 of the instances in a body
unfoldable pub body_faults : Lineage → List Fault
body_faults l = flat_map (λ g. small_stride (mode_under (l.node ∷ l.ancestors), g) ++ no_alignment g.first) (groups_at l)

-- What is known from a node on: sizes, where what stands in these is, and the failures of their bodies.
pub record AreSizesFrom (e : Elab) (from : ℕ) (s : Sizes) : Type 0 where
  pub measured : length s.measures.items ≡ length (lineages_of e)
  pub positive : All (λ m. 0 < m.access) s.measures.items
  pub sizes : (k : ℕ) (l : Lineage) → from ≤ k → slice_get (lineages_of e) k ≡ Some l → has_address l.node ≡ true → IsMeasure (measure_at s.measures.items k) l
  pub placed : length s.offsets.items ≡ length (lineages_of e)
  pub places : (i k : ℕ) (l : Lineage) (c : Instance) → from ≤ i → slice_get (lineages_of e) i ≡ Some l → slice_get (lineages_of e) k ≡ Some (child_of l c) → has_address c ≡ true → IsOffset l c (offset_at s.offsets.items k)
  pub failures : (f : Fault) → Contains s.faults.items f ↔ Contains (flat_map body_faults (drop from (lineages_of e))) f

-- of all nodes
abbrev pub AreSizes : Elab → Sizes → Type 0
AreSizes e s = AreSizesFrom e 0 s
