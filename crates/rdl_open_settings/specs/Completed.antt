-- What is known of a tree and of a node when the node's settings are completed.
use Rattle.std.specs.Prelude.{◌≡◌, ℕ, List, Option, None, Some, slice_get}
use Rattle.rdl_base.specs.declared.fault.Fault.{Fault}
use Rattle.rdl_tree.specs.declared.node.Elab.{Elab}
use Rattle.rdl_tree.specs.declared.node.Node.{Node, out-Node}
use Rattle.rdl_values.specs.Bodies as values
use Rattle.rdl_values.specs.Elaborated.{Says, nodes_of}
use Rattle.rdl_values.specs.Elaboration.{IsClean}
use Rattle.rdl_values.specs.Instances.{Instance}
use Rattle.rdl_open_bodies.specs.Spots.{IsOpenAt, IsOpenTree, IsSpot}
use Rattle.rdl_open_bodies.specs.declared.spots.OpenTree.{OpenTree}
use Rattle.rdl_open_bodies.specs.declared.spots.Spot.{Spot}
use Rattle.rdl_open_settings.specs.Layered.{AreLayersOf, HasLayers}
use Rattle.rdl_open_settings.specs.declared.table.LayerTable.{LayerTable}

-- the number of a body: its node's, and this for the root's
abbrev pub number_or : Option ℕ → ℕ → ℕ
number_or None count = count
number_or (Some k) count = k

-- A clean tree of so many nodes, with its open bodies and what their assignments give.
pub record IsScene (e : Elab) (tree : OpenTree) (layers : LayerTable) (count : ℕ) : Type 0 where
  pub clean : IsClean e
  pub open_ : IsOpenTree e tree
  pub before : List Fault
  pub after : List Fault
  pub layered : AreLayersOf e tree layers before after
  pub count_is : e.count ≡ count

-- A node of the tree, its instance, and where it is among the open bodies.
pub record IsNode (e : Elab) (tree : OpenTree) (r : Node) (o : Spot) (n : Instance) : Type 0 where
  pub there : slice_get (nodes_of e) (out-Node r).id ≡ Some n
  pub beside : List Node
  pub says : Says beside r n
  pub listed : slice_get tree.spots.items (out-Node r).id ≡ Some o
  pub spot : IsSpot e tree.bodies o n

-- The body of a node or of the root, which is open there, and whose layers are known.
pub record IsKnownAt (tree : OpenTree) (x : LayerTable) (r : Option ℕ) (b : values.Body) : Type 0 where
  pub k : ℕ
  pub is : r ≡ Some k
  pub open_ : IsOpenAt tree.bodies k b
  pub layers : HasLayers x k
