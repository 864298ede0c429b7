use Rattle.std.proofs.Common.{List, ◌++◌, filter, take}
use Rattle.rdl_tree.specs.declared.item.Kind.TheVariants as kinds
use Rattle.rdl_tree.specs.declared.node.Elab.{Elab}
use Rattle.rdl_values.specs.Instances.{Instance, children}
use Rattle.rdl_values.specs.Lineages.{Lineage}
use Rattle.rdl_layers.specs.Fields.{is_a}
use Rattle.rdl_encodings.specs.Numbered.{AreNumbered}
use Rattle.rdl_encodings.specs.Standing.{IsRowOf, IsScene}
use Rattle.rdl_encodings.proofs.fields.add_fields.Given as goal

abbrev pub invariant-loop-child : goal.invariant-loop-child
invariant-loop-child l = (e : Elab) (n : Lineage) (fs : List Instance) → IsScene e l.tree l.enums l.entries → IsRowOf e l.row n → AreNumbered l.initial.numbering l.enums fs → AreNumbered l.numbering l.enums (fs ++ filter (is_a kinds.Field) (take l.child-index (children n.node)))
