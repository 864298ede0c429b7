use Rattle.std.proofs.Common.{◌≡◌, take}
use Rattle.manual_units.proofs.lots.copies.Given as goal

abbrev pub invariant-loop-entry : goal.invariant-loop-entry
invariant-loop-entry l = l.items.items ≡ take l.entry-index l.entries
