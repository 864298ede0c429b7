use Rattle.std.proofs.Common.{◌≡◌, take}
use Rattle.kept_texts.specs.Entries.{named}
use Rattle.kept_texts.proofs.enumerations.keep_entries.Given as goal

abbrev pub invariant-loop-entry : goal.invariant-loop-entry
invariant-loop-entry l = named l.list.items ≡ named (take l.entry-index l.entries)
