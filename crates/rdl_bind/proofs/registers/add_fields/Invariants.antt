use Rattle.std.proofs.Common.{◌≡◌, ◌++◌, ◌&&◌, [], cond, flat_map, take, List}
use Rattle.rdl_tree.specs.declared.item.Kind.TheVariants as kinds
use Rattle.rdl_values.specs.Instances.{Instance, children}
use Rattle.rdl_values.specs.Lineages.{lineages_of}
use Rattle.rdl_layers.specs.Fields.{has_one_of, is_a}
use Rattle.rdl_nodes.specs.Rows.{AreInside}
use Rattle.rdl_refs.specs.Follows.{masked_items}
use Rattle.rdl_refs.specs.Items.{Item}
use Rattle.rdl_bind.specs.Known.{numbers_of}
use Rattle.rdl_bind.proofs.registers.add_fields.Given as goal

abbrev pub invariant-loop-node : goal.invariant-loop-node
invariant-loop-node l = (i : Item) (up : List Instance) → AreInside (lineages_of l.known.props.now) up l.nodes l.nodes (children i.node)
    → l.list.items ≡ l.initial.list.items ++ numbers_of l.known.props.now (flat_map (λ c. cond (is_a kinds.Field c && has_one_of l.list_of c) (masked_items (lineages_of l.known.props.now) l.masks i c) []) (take l.node-index (children i.node)))
