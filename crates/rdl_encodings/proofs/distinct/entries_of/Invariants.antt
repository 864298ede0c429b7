use Rattle.std.proofs.Common.{◌≡◌, map, take}
use Rattle.rdl_values.specs.Seen.{entry_of}
use Rattle.rdl_values.specs.Table.{entries_by}
use Rattle.rdl_encodings.proofs.distinct.entries_of.Given as goal

abbrev pub invariant-loop-entry : goal.invariant-loop-entry
invariant-loop-entry l = entries_by l.list.items ≡ map entry_of (take l.entry-index l.entries)
