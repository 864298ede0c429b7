use Rattle.std.proofs.Common.{◌≡◌, filter, map, take}
use Rattle.rdl_values.specs.Elaborated.{nodes_of}
use Rattle.rdl_layers.specs.Fields.{is_a}
use Rattle.rdl_notes.specs.Notes.{note_of}
use Rattle.rdl_notes.proofs.list.notes_of_kind.Given as goal

abbrev pub invariant-loop-row : goal.invariant-loop-row
invariant-loop-row l = l.list.items ≡ map note_of (filter (is_a l.kind) (take l.row-index (nodes_of l.props)))
