use Rattle.std.proofs.Common.{◌≡◌, ◌++◌, filter, map, take}
use Rattle.rdl_tree.specs.declared.item.Kind.TheVariants as kinds
use Rattle.rdl_values.specs.Instances.{children}
use Rattle.rdl_values.specs.Lineages.{Lineage, lineages_of}
use Rattle.rdl_layers.specs.Fields.{is_a}
use Rattle.rdl_rules.specs.Fields.{view_of}
use Rattle.rdl_block_lists.specs.Standing.{IsRowOf}
use Rattle.rdl_block_lists.proofs.register.add_views.Given as goal

abbrev pub invariant-loop-child : goal.invariant-loop-child
invariant-loop-child l = (n : Lineage) → IsRowOf l.known.props.now l.row n
    → l.list.items ≡ l.initial.list.items ++ map (view_of (lineages_of l.known.props.now) n.node) (filter (is_a kinds.Field) (take l.child-index (children n.node)))
