-- What an item's value is made from, and where references can be followed for ever.
use Rattle.std.specs.Prelude.{◌≡◌, ℕ, Bool, false, not, ◌&&◌, ◌||◌, cond, List, [], ◌∷◌, map, flat_map, filter, take, Some, slice_get}
use Rattle.std.specs.List.{list_any, position_or_len}
use Rattle.rb_base.specs.declared.place.Place.{Place}
use Rattle.rdl_tree.specs.declared.item.Kind.TheVariants as kind
use Rattle.rdl_props.specs.declared.prop.Prop.{Prop}
use Rattle.rdl_props.specs.declared.prop.Prop.TheVariants as prop
use Rattle.rdl_values.specs.Instances.{Instance}
use Rattle.rdl_values.specs.Lineages.{Lineage, nodes_in}
use Rattle.rdl_layers.specs.Assignments.{same_path}
use Rattle.rdl_layers.specs.Settings.{setting}
use Rattle.rdl_layers.specs.Fields.{is_a, fields_of, is_alias, views, is_wire, is_counter, is_interrupt, has_one_of}
use Rattle.rdl_refs.specs.declared.item.What.{What}
use Rattle.rdl_refs.specs.declared.item.What.TheVariants as what
use Rattle.rdl_refs.specs.Graph.{Edges, ForEver}
use Rattle.rdl_refs.specs.Items.{Item, items, target, same_what}

-- the items that settings of a node name
abbrev pub given_items : List Lineage → Instance → List Prop → List Item
given_items all n ps = flat_map (λ p. target all (setting n p)) ps

-- the value of an item's node
abbrev pub value_of : Item → Item
value_of i = record { node = i.node; ancestors = i.ancestors; what = what.Value }

-- the value of a field of an item's register
abbrev pub value_in : Item → Instance → Item
value_in i f = record { node = f; ancestors = i.node ∷ i.ancestors; what = what.Value }

-- the node that an item's node stands in, of a field its register: in a list of one, or none
abbrev pub parent : Item → List Instance
parent i = take 1 i.ancestors

-- an item of a field that is no counter, or of a register without interrupts
abbrev pub is_missing : Item → Bool
is_missing i = go i.what
  where
    go : What → Bool
    go what.IncrThreshold = not (is_counter i.node)
    go what.DecrThreshold = not (is_counter i.node)
    go what.Overflow = not (is_counter i.node)
    go what.Underflow = not (is_counter i.node)
    go what.Intr = not (list_any is_interrupt (fields_of i.node))
    go what.Halt = not (list_any (has_one_of (prop.Haltenable ∷ prop.Haltmask ∷ [])) (fields_of i.node))
    go _ = false

-- an item of an alias, or of a field of one; a signal in it is a node of its own
abbrev pub is_in_alias : Item → Bool
is_in_alias i = is_alias i.node || (is_a kind.Field i.node && list_any is_alias (parent i))

-- a wire is the item that its 'next' names
abbrev pub wire_items : List Lineage → Item → List Item
wire_items all i = flat_map (λ r. cond (is_wire (views (nodes_in all) r i.node) i.node) (given_items all i.node (prop.Next ∷ [])) []) (parent i)

abbrev pub counts : List Prop
counts = prop.Incr ∷ prop.Decr ∷ prop.Incrvalue ∷ prop.Decrvalue ∷ []

abbrev pub masked_items : List Lineage → List Prop → Item → Instance → List Item
masked_items all masks i f = value_in i f ∷ given_items all f masks

abbrev pub made_from : List Lineage → Item → List Item
made_from all i = go i.what
  where
    go : What → List Item
    go what.Value = cond (is_a kind.Field i.node) (wire_items all i) []
    go what.Anded = value_of i ∷ []
    go what.Ored = value_of i ∷ []
    go what.Xored = value_of i ∷ []
    go what.IncrThreshold = value_of i ∷ given_items all i.node (prop.Incrthreshold ∷ [])
    go what.DecrThreshold = value_of i ∷ given_items all i.node (prop.Decrthreshold ∷ [])
    go what.Overflow = given_items all i.node counts
    go what.Underflow = given_items all i.node counts
    go what.SwMod = []
    go what.SwAcc = []
    go what.Intr = flat_map (masked_items all (prop.Enable ∷ prop.Mask ∷ []) i) (filter is_interrupt (fields_of i.node))
    go what.Halt = flat_map (masked_items all (prop.Haltenable ∷ prop.Haltmask ∷ []) i) (filter (has_one_of (prop.Haltenable ∷ prop.Haltmask ∷ [])) (fields_of i.node))

-- the items that an item refers to: those that its value is made from; one that is missing or an alias's refers to none
abbrev pub refers_to : List Lineage → Item → List Item
refers_to all i = cond (is_missing i || is_in_alias i) [] (made_from all i)

-- Items by their numbers.

abbrev pub is_item : Item → Item → Bool
is_item i j = same_path i.node.path j.node.path && same_what i.what j.what

-- an item's number is its position among all
abbrev pub item_number : List Lineage → Item → ℕ
item_number all i = position_or_len (is_item i) (items all)

-- the numbers of the items that each item refers to
unfoldable pub edges_of : List Lineage → Edges
edges_of all = map (λ i. map (item_number all) (refers_to all i)) (items all)

-- R7: at the instance of a field or register from one of whose items references can be followed for ever
abbrev pub FailsR7 : List Lineage → Place → Type 0
FailsR7 all p = (k : ℕ) × (i : Item) × (slice_get (items all) k ≡ Some i) × ForEver (edges_of all) k × (p ≡ i.node.use_.name.place)
