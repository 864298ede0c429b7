-- The item that a reference means, by its node's number.
use Rattle.std.specs.Prelude.{◌≡◌, true, List, [], ◌∷◌, Option, None, Some, slice_get}
use Rattle.rdl_tree.specs.declared.node.Elab.{Elab}
use Rattle.rdl_values.specs.Instances.{kind_of}
use Rattle.rdl_values.specs.Lineages.{lineages_of}
use Rattle.rdl_values.specs.Parts.{is_unit}
use Rattle.rdl_refs.specs.declared.item.ItemOf.{ItemOf}
use Rattle.rdl_refs.specs.declared.item.What.TheVariants as what
use Rattle.rdl_refs.specs.Items.{Item}

-- The item's node has this number, and it is an item of the node; a value is that of a field or a signal.
pub record IsItemAt (e : Elab) (i : Item) (x : ItemOf) : Type 0 where
  pub here : slice_get (lineages_of e) x.node ≡ Some (record { node = i.node; ancestors = i.ancestors })
  pub what_ : x.what ≡ i.what
  pub value : i.what ≡ what.Value → is_unit (kind_of i.node) ≡ true

-- the one item of a list, and none of an empty one
abbrev pub Names : Elab → List Item → Option ItemOf → Type 0
Names e [] x = x ≡ None
Names e (i ∷ is) None = ⊥
Names e (i ∷ is) (Some x) = (is ≡ []) × IsItemAt e i x
