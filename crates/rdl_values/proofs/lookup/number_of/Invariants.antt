use Rattle.std.proofs.Common.{◌≡◌, map, drop}
use Rattle.rdl_values.specs.Values.{entry_named}
use Rattle.rdl_values.specs.Seen.{entry_of}
use Rattle.rdl_values.proofs.lookup.number_of.Given as goal

abbrev pub invariant-loop-entry : goal.invariant-loop-entry
invariant-loop-entry l = entry_named l.name (map entry_of l.entries) ≡ entry_named l.name (map entry_of (drop l.entry-index l.entries))
