-- The addresses of nodes.
use Rattle.std.specs.Prelude.{◌≡◌, ℕ, ◌+◌, ◌<◌, true, List, length, Option, None, Some, Contains, slice_get, slice_index_or}
use Rattle.rdl_tree.specs.declared.node.Elab.{Elab}
use Rattle.rdl_values.specs.Elaborated.{top_name}
use Rattle.rdl_values.specs.Lineages.{Lineage, lineages_of}
use Rattle.rdl_addr.specs.Layout.{Placed, has_address, layout, placed_from}
use Rattle.rdl_sizes.specs.Levels.{levels, mode_under}

abbrev pub address_at : List ℕ → ℕ → ℕ
address_at as_ k = slice_index_or as_ k 0

-- so far behind the node of a number, or at 0 where there is none
abbrev pub address_by : List ℕ → Option ℕ → ℕ → ℕ
address_by as_ None offset = 0
address_by as_ (Some p) offset = address_at as_ p + offset

-- the node stands here, and what is in it where it then does
unfoldable pub IsArea : Elab → Lineage → ℕ → Type 0
IsArea e l at = (p : Placed) → Contains (placed_from (levels l.ancestors) (mode_under l.ancestors) at l.node) p → Contains (layout (Some (top_name e)) e.source.now) p

-- The addresses are those of the first nodes.
pub record AreFirst (e : Elab) (as_ : List ℕ) : Type 0 where
  pub areas : (k : ℕ) (l : Lineage) → k < length as_ → slice_get (lineages_of e) k ≡ Some l → has_address l.node ≡ true → IsArea e l (address_at as_ k)

-- of all nodes
pub record AreAddresses (e : Elab) (as_ : List ℕ) : Type 0 where
  pub many : length as_ ≡ length (lineages_of e)
  pub first : AreFirst e as_
