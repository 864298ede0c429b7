-- Where nodes stand, and what is known of them.
use Rattle.std.specs.Prelude.{◌≡◌, Bool, not, ◌&&◌, cond, List, [], length, Some, Vec, slice_get}
use Rattle.std.specs.Global.{Global}
use Rattle.rdl_tree.specs.declared.item.Kind.TheVariants as kind
use Rattle.rdl_tree.specs.declared.node.Elab.{Elab}
use Rattle.rdl_tree.specs.declared.node.Node.{out-Node}
use Rattle.rdl_values.specs.Elaboration.{IsClean}
use Rattle.rdl_values.specs.Instances.{Instance}
use Rattle.rdl_values.specs.Lineages.{Lineage, lineages_of}
use Rattle.rdl_nodes.specs.declared.table.Row.{Row}
use Rattle.rdl_nodes.specs.Rows.{IsRow}
use Rattle.rdl_layers.specs.Fields.{fields_of, is_a, is_alias}
use Rattle.rdl_layers.specs.declared.props.PropSetting.{PropSetting}
use Rattle.rdl_open_bodies.specs.Spots.{IsOpenTree}
use Rattle.rdl_open_bodies.specs.declared.spots.OpenTree.{OpenTree}
use Rattle.rdl_facts.specs.Told.{AreTold}
use Rattle.rdl_encodings.specs.Meant.{Serves}
use Rattle.rdl_encodings.specs.declared.enums.Enums.{Enums}

-- The row is that of a node.
pub record IsRowOf (e : Elab) (x : Row) (l : Lineage) : Type 0 where
  pub here : slice_get (lineages_of e) (out-Node x.node.now).id ≡ Some l
  pub row : IsRow e (lineages_of e) (out-Node x.node.now).id x l

-- A tree with its open bodies, their enumerations, and the entries of its nodes.
pub record IsScene (e : Elab) (tree : OpenTree) (t : Enums) (es : List (Vec PropSetting Global)) : Type 0 where
  pub clean : IsClean e
  pub open_ : IsOpenTree e tree
  pub told : AreTold e es
  pub all_nodes : length es ≡ e.count
  pub serves : Serves t tree es

-- the node is a register that is no alias
abbrev pub is_primary : Instance → Bool
is_primary n = is_a kind.Reg n && not (is_alias n)

-- the fields that a block has of a node
abbrev pub own_fields : Instance → List Instance
own_fields n = cond (is_primary n) (fields_of n) []
