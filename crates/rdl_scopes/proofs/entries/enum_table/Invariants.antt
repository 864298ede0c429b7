use Rattle.std.proofs.Common.{map, take}
use Rattle.rdl_scopes.specs.Entries.{IsTableOf, pair}
use Rattle.rdl_scopes.proofs.entries.enum_table.Given as goal

abbrev pub invariant-loop-entry : goal.invariant-loop-entry
invariant-loop-entry l = IsTableOf l.fn.name (map pair (take l.entry-index l.entries)) l.table
