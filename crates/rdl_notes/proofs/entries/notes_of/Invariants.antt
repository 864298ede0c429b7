use Rattle.std.proofs.Common.{◌≡◌, map, take}
use Rattle.rdl_notes.specs.Entries.{entry_said}
use Rattle.rdl_notes.proofs.entries.notes_of.Given as goal

abbrev pub invariant-loop-entry : goal.invariant-loop-entry
invariant-loop-entry l = l.list.items ≡ map entry_said (take l.entry-index l.entries)
