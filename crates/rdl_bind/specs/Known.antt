-- What is known of a tree when it is asked what its items refer to.
use Rattle.std.specs.Prelude.{◌≡◌, ℕ, ◌<◌, Bool, ◌&&◌, List, length, map, Contains, Some, slice_get}
use Rattle.std.specs.List.{list_any}
use Rattle.rdl_tree.specs.declared.item.Kind.TheVariants as kind
use Rattle.rdl_tree.specs.declared.node.Elab.{Elab}
use Rattle.rdl_values.specs.Elaboration.{IsClean}
use Rattle.rdl_values.specs.Instances.{kind_of}
use Rattle.rdl_values.specs.Lineages.{Lineage, lineages_of, nodes_in}
use Rattle.rdl_layers.specs.Fields.{is_a, is_wire, views}
use Rattle.rdl_nodes.specs.Rows.{AreRows}
use Rattle.rdl_refs.specs.Tables.{list_at}
use Rattle.rdl_refs.specs.declared.item.ItemOf.{ItemOf}
use Rattle.rdl_refs.specs.Follows.{item_number, parent}
use Rattle.rdl_refs.specs.Items.{Item, whats}
use Rattle.rdl_bind.specs.Given.{NameItems}
use Rattle.rdl_bind.specs.Numbered.{AreNumbers}
use Rattle.rdl_ref_items.specs.InterruptOutputs.{AreInterruptOutputs}
use Rattle.rdl_members.specs.Covered.{AreOverViews}
use Rattle.rdl_fields.specs.Touched.{touches}
use Rattle.rdl_bind.specs.declared.known.BoundTree.{BoundTree}

-- The tree is clean, and these are its rows, its marks, the fields that software touches, its items and what its settings name.
pub record IsBoundTree (k : BoundTree) : Type 0 where
  pub clean : IsClean k.props.now
  pub rows_ : AreRows k.props.now k.rows.now
  pub marks_ : AreInterruptOutputs k.props.now k.marks.now
  pub touched_ : AreOverViews k.props.now touches k.touched.now
  pub numbers_ : AreNumbers k.props.now k.numbers.now
  pub sized : length k.targets.now ≡ k.props.now.count
  pub named : (j : ℕ) → j < k.props.now.count → NameItems k.props.now j (list_at k.targets.now j)

-- The item's node has this number, and it is an item that the node has.
pub record IsItem (e : Elab) (i : Item) (x : ItemOf) : Type 0 where
  pub here : slice_get (lineages_of e) x.node ≡ Some (record { node = i.node; ancestors = i.ancestors })
  pub what_ : x.what ≡ i.what
  pub has : Contains (whats (kind_of i.node)) i.what

-- the numbers of items
abbrev pub numbers_of : Elab → List Item → List ℕ
numbers_of e is = map (item_number (lineages_of e)) is

-- the item's node is a field that is a wire
abbrev pub is_of_wire : List Lineage → Item → Bool
is_of_wire all i = is_a kind.Field i.node && list_any (λ r. is_wire (views (nodes_in all) r i.node) i.node) (parent i)
