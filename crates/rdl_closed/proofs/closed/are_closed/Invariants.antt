use Rattle.std.proofs.Common.{take}
use Rattle.std.specs.List.{AllByRecursion}
use Rattle.rdl_closed.specs.Closed.{IsClosedEntry}
use Rattle.rdl_closed.proofs.closed.are_closed.Given as goal

abbrev pub invariant-loop-entry : goal.invariant-loop-entry
invariant-loop-entry l = AllByRecursion IsClosedEntry (take l.entry-index l.entries)
