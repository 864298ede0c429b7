use Rattle.std.proofs.Common.{map, take}
use Rattle.rdl_values.specs.Seen.{entry_of}
use Rattle.rdl_facts.specs.Greatest.{IsGreatest}
use Rattle.rdl_facts.proofs.greatest.greatest_of.Given as goal

abbrev pub invariant-loop-entry : goal.invariant-loop-entry
invariant-loop-entry l = IsGreatest l.greatest (map entry_of (take l.entry-index l.entries))
