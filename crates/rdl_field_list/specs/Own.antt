-- The fields of registers that are no aliases.
use Rattle.std.specs.Prelude.{◌≡◌, ℕ, true, false, Some, slice_get}
use Rattle.std.specs.List.{AllByRecursion}
use Rattle.rdl_tree.specs.declared.node.Elab.{Elab}
use Rattle.rdl_tree.specs.declared.node.Node.{out-Node}
use Rattle.rdl_values.specs.Elaborated.{nodes_of}
use Rattle.rdl_values.specs.Instances.{Instance}
use Rattle.rdl_values.specs.Lineages.{Lineage, child_of, lineages_of}
use Rattle.rdl_layers.specs.Fields.{is_alias}
use Rattle.rdl_nodes.specs.declared.table.Row.{Row}
use Rattle.rdl_nodes.specs.Rows.{IsRow}
use Rattle.rdl_feeds.specs.Narrow.{AreNarrow}
use Rattle.rdl_block_numbers.specs.Listed.{is_primary}
use Rattle.rdl_rules.specs.Numbers.{all_fields}

-- The row is that of a node.
pub record IsRowOf (e : Elab) (x : Row) (l : Lineage) : Type 0 where
  pub here : slice_get (lineages_of e) (out-Node x.node.now).id ≡ Some l
  pub row : IsRow e (lineages_of e) (out-Node x.node.now).id x l

-- It is a register that is no alias.
pub record IsPrimaryRow (e : Elab) (x : Row) (l : Lineage) : Type 0 where
  pub of : IsRowOf e x l
  pub primary : is_primary l.node ≡ true

-- By their numbers, a node that is no alias and one in it.
pub record IsOwn (e : Elab) (register node : ℕ) (l : Lineage) (f : Instance) : Type 0 where
  pub above : slice_get (lineages_of e) register ≡ Some l
  pub here : slice_get (lineages_of e) node ≡ Some (child_of l f)
  pub no_alias : is_alias l.node ≡ false

-- No field of the block has a pin that is wider than a byte tells.
abbrev pub AreNarrowFields : Elab → Type 0
AreNarrowFields e = AllByRecursion AreNarrow (all_fields (nodes_of e))
