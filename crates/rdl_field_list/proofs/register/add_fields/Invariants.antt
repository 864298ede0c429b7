use Rattle.std.proofs.Common.{◌≡◌, ◌++◌, filter, map, take}
use Rattle.rdl_tree.specs.declared.item.Kind.TheVariants as kinds
use Rattle.rdl_values.specs.Instances.{children}
use Rattle.rdl_values.specs.Lineages.{Lineage, lineages_of}
use Rattle.rdl_layers.specs.Fields.{is_a}
use Rattle.rdl_rules.specs.Fields.{field_of}
use Rattle.rdl_rules.specs.Numbers.{Numbered}
use Rattle.rdl_field_list.specs.Own.{IsPrimaryRow}
use Rattle.rdl_field_list.proofs.register.add_fields.Given as goal

abbrev pub invariant-loop-child : goal.invariant-loop-child
invariant-loop-child l = (r : Numbered Lineage) → IsPrimaryRow l.known.props.now l.row r.register → l.number ≡ r.number
    → l.list.items ≡ l.initial.list.items ++ map (field_of l.known.props.now.source.now (lineages_of l.known.props.now) r) (filter (is_a kinds.Field) (take l.child-index (children r.register.node)))
