use Rattle.std.proofs.Common.{◌≡◌, ◌++◌, filter, map, take}
use Rattle.rdl_tree.specs.declared.item.Kind.TheVariants as kinds
use Rattle.rdl_values.specs.Instances.{children}
use Rattle.rdl_values.specs.Lineages.{Lineage}
use Rattle.rdl_layers.specs.Fields.{is_a}
use Rattle.rdl_notes.specs.Notes.{note_of}
use Rattle.rdl_encodings.specs.Standing.{IsRowOf}
use Rattle.rdl_notes.proofs.list.add_views.Given as goal

abbrev pub invariant-loop-child : goal.invariant-loop-child
invariant-loop-child l = (n : Lineage) → IsRowOf l.props l.row n → l.list.items ≡ l.initial.list.items ++ map note_of (filter (is_a kinds.Field) (take l.child-index (children n.node)))
