use Rattle.std.proofs.Common.{◌≡◌, ◌&&◌, false, List, take}
use Rattle.std.specs.List.{list_any}
use Rattle.rdl_tree.specs.declared.item.Kind.TheVariants as kinds
use Rattle.rdl_values.specs.Instances.{Instance, children}
use Rattle.rdl_values.specs.Lineages.{lineages_of}
use Rattle.rdl_layers.specs.Fields as fields
use Rattle.rdl_layers.specs.Fields.{is_a}
use Rattle.rdl_nodes.specs.Rows.{AreInside}
use Rattle.rdl_ref_items.proofs.fields.has_field_with.Given as goal

abbrev pub invariant-loop-node : goal.invariant-loop-node
invariant-loop-node l = (n : Instance) (up : List Instance) → AreInside (lineages_of l.props) up l.nodes l.nodes (children n) → list_any (λ c. is_a kinds.Field c && fields.has_one_of l.list c) (take l.node-index (children n)) ≡ false
