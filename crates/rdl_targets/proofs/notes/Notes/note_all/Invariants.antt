use Rattle.std.proofs.Common.{take}
use Rattle.rdl_targets.specs.Noted.{NotesAll}
use Rattle.rdl_targets.proofs.notes.Notes.note_all.Given as goal

abbrev pub invariant-loop-node : goal.invariant-loop-node
invariant-loop-node l = NotesAll l.number l.rows (take l.node-index l.nodes) l.initial.self l.self
