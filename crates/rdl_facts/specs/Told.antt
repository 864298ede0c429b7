-- What is known of nodes when their facts are found.
use Rattle.std.specs.Prelude.{◌≡◌, ℕ, Contains, List, Some, Vec, slice_get}
use Rattle.std.specs.Global.{Global}
use Rattle.rdl_tree.specs.declared.node.Elab.{Elab}
use Rattle.rdl_values.specs.Elaborated.{nodes_of}
use Rattle.rdl_values.specs.Elaboration.{IsClean}
use Rattle.rdl_values.specs.Instances.{Instance}
use Rattle.rdl_layers.specs.Settings.{applied_to}
use Rattle.rdl_layers.specs.Tables.{entries_at}
use Rattle.rdl_layers.specs.declared.props.PropSetting.{PropSetting}
use Rattle.rdl_merge.specs.Merged.{AreEntries}
use Rattle.rdl_open_bodies.specs.Spots.{IsOpenTree, IsSpot}
use Rattle.rdl_open_bodies.specs.declared.spots.OpenTree.{OpenTree}
use Rattle.rdl_open_bodies.specs.declared.spots.Spot.{Spot}
use Rattle.rdl_facts.specs.Table.{AreNumbersOf}
use Rattle.rdl_facts.specs.declared.table.EnumNumbers.{EnumNumbers}

-- A node among the open bodies of its tree, and entries that tell of all that applies to it.
pub record IsTold (e : Elab) (tree : OpenTree) (enums : EnumNumbers) (o : Spot) (es : List PropSetting) (n : Instance) : Type 0 where
  pub clean : IsClean e
  pub open_ : IsOpenTree e tree
  pub numbers : AreNumbersOf enums tree.bodies
  pub there : Contains (nodes_of e) n
  pub spot : IsSpot e tree.bodies o n
  pub entries : AreEntries (nodes_of e) es (applied_to n)

-- The entries of each node tell of all that applies to it.
pub record AreTold (e : Elab) (es : List (Vec PropSetting Global)) : Type 0 where
  pub each : (k : ℕ) (n : Instance) → slice_get (nodes_of e) k ≡ Some n → AreEntries (nodes_of e) (entries_at es k) (applied_to n)
