use Rattle.std.proofs.Common.{take}
use Rattle.rdl_tree.specs.declared.node.Node.{out-Node}
use Rattle.rdl_targets.specs.Noted.{NotesNodes}
use Rattle.rdl_targets.proofs.notes.Notes.note_body.Given as goal

abbrev pub invariant-loop-child : goal.invariant-loop-child
invariant-loop-child l = NotesNodes l.number (take l.child-index (out-Node l.node).children.now) l.initial.self l.self
