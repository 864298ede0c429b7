-- The failures of the rules on strides, alignments and bits, as the definitions list them.
use Rattle.std.specs.Prelude.{List, ◌++◌, Some, filter, flat_map}
use Rattle.rdl_base.specs.declared.fault.Fault.{Fault}
use Rattle.rdl_tree.specs.declared.item.Kind.TheVariants as kind
use Rattle.rdl_tree.specs.declared.node.Elab.{Elab}
use Rattle.rdl_values.specs.Bodies.{standing}
use Rattle.rdl_values.specs.Elaborated.{nodes_of, top_name}
use Rattle.rdl_layers.specs.Fields.{is_a}
use Rattle.rdl_addr.specs.Bits.{bits_of}
use Rattle.rdl_addr.specs.Rules.{all_groups, no_alignment, of_bits, small_stride}

-- A1 and A2
unfoldable pub failures_of_bodies : Elab → List Fault
failures_of_bodies e = flat_map small_stride (all_groups (Some (top_name e)) e.source.now) ++ flat_map no_alignment (nodes_of e)

-- B1 and B2
unfoldable pub failures_of_bits : Elab → List Fault
failures_of_bits e = flat_map (λ r. flat_map (of_bits r) (standing (bits_of r))) (filter (is_a kind.Reg) (nodes_of e))
