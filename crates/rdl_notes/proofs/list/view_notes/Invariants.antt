use Rattle.std.proofs.Common.{◌≡◌, filter, flat_map, map, take}
use Rattle.rdl_tree.specs.declared.item.Kind.TheVariants as kinds
use Rattle.rdl_values.specs.Elaborated.{nodes_of}
use Rattle.rdl_layers.specs.Fields.{fields_of, is_a}
use Rattle.rdl_notes.specs.Notes.{note_of}
use Rattle.rdl_notes.proofs.list.view_notes.Given as goal

abbrev pub invariant-loop-row : goal.invariant-loop-row
invariant-loop-row l = l.list.items ≡ flat_map (λ r. map note_of (fields_of r)) (filter (is_a kinds.Reg) (take l.row-index (nodes_of l.props)))
