use Rattle.std.proofs.Common.{◌≡◌, filter, flat_map, map, take}
use Rattle.rdl_tree.specs.declared.item.Kind.TheVariants as kinds
use Rattle.rdl_values.specs.Lineages.{lineages_of, nodes_in}
use Rattle.rdl_layers.specs.Fields.{fields_of, is_a}
use Rattle.rdl_rules.specs.Fields.{view_of}
use Rattle.rdl_block_lists.proofs.view_list.views.Given as goal

abbrev pub invariant-loop-at : goal.invariant-loop-at
invariant-loop-at l = l.list.items ≡ flat_map (λ r. map (view_of (lineages_of l.known.props.now) r) (fields_of r)) (filter (is_a kinds.Reg) (take l.at (nodes_in (lineages_of l.known.props.now))))
