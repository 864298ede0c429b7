-- The numbers of items.
use Rattle.std.specs.Prelude.{◌≡◌, ℕ, ◌<◌, ◌^◌, List, length, flat_map, map, slice_get, take, Some}
use Rattle.rb_base.specs.declared.place.Place.{Place}
use Rattle.rdl_tree.specs.declared.node.Elab.{Elab}
use Rattle.rdl_values.specs.Elaborated.{nodes_of}
use Rattle.rdl_values.specs.Lineages.{Lineage, lineages_of}
use Rattle.rdl_refs.specs.declared.item.ItemOf.{ItemOf}
use Rattle.rdl_refs.specs.Answers.{AreItems, AreItemsOf}
use Rattle.rdl_refs.specs.Items.{Item, items, items_of}
use Rattle.rdl_bind.specs.declared.numbering.Numbers.{Numbers}

abbrev pub place_of : Item → Place
place_of i = i.node.use_.name.place

-- the items of the first nodes
abbrev pub items_to : List Lineage → ℕ → List Item
items_to all k = flat_map items_of (take k all)

-- the number of the first item of a node, if it has any: how many stand before it
abbrev pub first_of : List Lineage → ℕ → ℕ
first_of all k = length (items_to all k)

-- The items of the first nodes.
pub record AreNumbersTo (e : Elab) (to : ℕ) (is : List ItemOf) (at : List Place) (firsts : List ℕ) : Type 0 where
  pub listed : AreItemsOf (nodes_of e) is (items_to (lineages_of e) to)
  pub placed : at ≡ map place_of (items_to (lineages_of e) to)
  pub many : length firsts ≡ to
  pub first : (k : ℕ) → k < to → slice_get firsts k ≡ Some (first_of (lineages_of e) k)

-- All items, the place of each one's node, and the number of the first item of each node.
pub record AreNumbers (e : Elab) (x : Numbers) : Type 0 where
  pub listed : AreItems e x.items.items
  pub few : length x.items.items < 2 ^ 32
  pub placed : x.places.items ≡ map place_of (items (lineages_of e))
  pub many : length x.firsts.items ≡ e.count
  pub first : (k : ℕ) → k < e.count → slice_get x.firsts.items k ≡ Some (first_of (lineages_of e) k)
