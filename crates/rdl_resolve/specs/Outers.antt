-- The body next round each definition's text.
use Rattle.std.specs.Prelude.{◌≡◌, ℕ, ◌+◌, ◌^◌, ◌<◌, ◌≤◌, List, [], ◌∷◌, length, Option, None, Some, slice_get}
use Rattle.rdl_tree.specs.declared.node.Elab.{Elab}
use Rattle.rdl_tree.specs.declared.node.Node.{out-Node}
use Rattle.rdl_values.specs.Bodies.{Path}
use Rattle.rdl_values.specs.Elaborated.{nodes_of}
use Rattle.rdl_values.specs.Seen.{around_of}
use Rattle.rdl_values.specs.Lineages.{Lineage, lineages_of}
use Rattle.rdl_layers.specs.Says.{IsBodyNumber}
use Rattle.rdl_nodes.specs.declared.table.Row.{Row}
use Rattle.rdl_layers.specs.Scoped.{bodies_of}
use Rattle.rdl_resolve.specs.Outward.{IsChain, outer_at}

-- a chain of bodies up to the root's, of nodes before the one of this number
abbrev pub IsChainBelow : Elab → List ℕ → ℕ → List (Option Path) → ℕ → Type 0
IsChainBelow e outers n [] b = Unit {0}
IsChainBelow e outers n (None ∷ ps) b = IsBodyNumber (nodes_of e) None b × (ps ≡ [])
IsChainBelow e outers n (Some p ∷ ps) b = (b < n) × IsBodyNumber (nodes_of e) (Some p) b × IsChainBelow e outers n ps (outer_at e.count outers b)

-- The bodies next round the texts of the first nodes.
pub record AreOutersTo (e : Elab) (to : ℕ) (outers : List ℕ) : Type 0 where
  pub many : length outers ≡ to
  pub chains : (k : ℕ) (l : Lineage) → k < to → slice_get (lineages_of e) k ≡ Some l → IsChainBelow e outers to (bodies_of l.node.closure.scope) (outer_at e.count outers k)

-- Of all.
pub record AreOuters (e : Elab) (outers : List ℕ) : Type 0 where
  pub chains : (k : ℕ) (l : Lineage) → slice_get (lineages_of e) k ≡ Some l → IsChain e outers (bodies_of l.node.closure.scope) (outer_at e.count outers k)

-- a node stands in one in whose body as many bodies are seen as no number counts
abbrev pub IsTooDeep : List Row → Row → Type 0
IsTooDeep rows x = (p : ℕ) × (y : Row) × (x.parent ≡ Some p) × (slice_get rows p ≡ Some y) × (2 ^ 64 ≤ length (around_of (out-Node y.node.now).env.now) + 1)
