use Rattle.std.proofs.Common.{◌≡◌}
use Rattle.manual_units.specs.Marks.{none_of}
use Rattle.manual_units.proofs.marks.none_of.Given as goal

abbrev pub invariant-loop : goal.invariant-loop
invariant-loop l = l.marks.items ≡ none_of l.counter
