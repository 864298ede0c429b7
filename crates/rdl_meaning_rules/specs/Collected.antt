-- What fails in a tree, as it is collected.
use Rattle.std.specs.Prelude.{List, ◌++◌, Some, filter, flat_map}
use Rattle.rdl_base.specs.declared.fault.Fault.{Fault}
use Rattle.rdl_tree.specs.declared.item.Kind.TheVariants as kind
use Rattle.rdl_tree.specs.declared.node.Elab.{Elab}
use Rattle.rdl_props.specs.Table.{reference_props}
use Rattle.rdl_values.specs.Elaborated.{nodes_of, top_name}
use Rattle.rdl_values.specs.Instances.{children, signals, top_of}
use Rattle.rdl_values.specs.Lineages.{lineages_of}
use Rattle.rdl_layers.specs.Fields.{is_a}
use Rattle.rdl_rules.specs.Numbers.{registers}
use Rattle.rdl_rules.specs.ReferenceRules.{bad_target, second_reset, wide_reset}
use Rattle.rdl_rules.specs.RegisterRules.{empty_container, too_many_fields}
use Rattle.rdl_field_rules.specs.Judged.{register_failures}

abbrev pub of_registers : Elab → List Fault
of_registers e = flat_map (register_failures (nodes_of e)) (registers (nodes_of e))

abbrev pub of_containers : Elab → List Fault
of_containers e = flat_map empty_container (nodes_of e)

abbrev pub of_count : Elab → List Fault
of_count e = too_many_fields (top_of (Some (top_name e)) e.source.now) (nodes_of e)

-- the references of fields: no other nodes have any
abbrev pub of_fields : Elab → List Fault
of_fields e = flat_map (λ n. flat_map (bad_target (lineages_of e) n) reference_props) (filter (is_a kind.Field) (nodes_of e))

abbrev pub of_resets : Elab → List Fault
of_resets e = flat_map (λ n. wide_reset (lineages_of e) n ++ second_reset (children n)) (nodes_of e)

abbrev pub of_roots : Elab → List Fault
of_roots e = second_reset (signals e.source.now)

-- all but those of R7
abbrev pub collected : Elab → List Fault
collected e = of_registers e ++ of_containers e ++ of_count e ++ of_fields e ++ of_resets e ++ of_roots e
