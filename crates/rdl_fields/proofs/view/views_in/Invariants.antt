use Rattle.std.proofs.Common.{filter, take}
use Rattle.rdl_tree.specs.declared.item.Kind.TheVariants as kinds
use Rattle.rdl_values.specs.Instances.{children}
use Rattle.rdl_values.specs.Lineages.{Lineage}
use Rattle.rdl_layers.specs.Fields.{is_a}
use Rattle.rdl_sizes.specs.Bodies.{IsBodyOf}
use Rattle.rdl_fields.proofs.Fields.{AreIn}
use Rattle.rdl_fields.proofs.view.views_in.Given as goal

abbrev pub invariant-loop-child : goal.invariant-loop-child
invariant-loop-child l = (n : Lineage) → IsBodyOf l.map l.node n → AreIn l.map n.node l.views.items (filter (is_a kinds.Field) (take l.child-index (children n.node)))
