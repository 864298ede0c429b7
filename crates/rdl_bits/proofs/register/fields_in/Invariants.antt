use Rattle.std.proofs.Common.{take, filter}
use Rattle.std.specs.List.{All}
use Rattle.rdl_tree.specs.declared.item.Kind.TheVariants as kinds
use Rattle.rdl_values.specs.Elaborated.{around_body}
use Rattle.rdl_values.specs.Instances.{children}
use Rattle.rdl_values.specs.Lineages.{Lineage}
use Rattle.rdl_failures.specs.Shown.{IsShown}
use Rattle.rdl_layers.specs.Fields.{is_a}
use Rattle.rdl_layout.specs.Fields as fields
use Rattle.rdl_addr.specs.Fields.{AreFieldsOf}
use Rattle.rdl_sizes.specs.Bodies.{IsBodyOf}
use Rattle.rdl_bits.proofs.register.fields_in.Given as goal

abbrev pub invariant-loop-child : goal.invariant-loop-child
invariant-loop-child l = record {
  fit : All fields.IsFit l.fields.items;
  all : (n : Lineage) → IsBodyOf l.props l.node n → IsShown l.visible (around_body n.node) → AreFieldsOf l.fields.items (filter (is_a kinds.Field) (take l.child-index (children n.node)));
}
