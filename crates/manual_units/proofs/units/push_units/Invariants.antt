use Rattle.std.proofs.Common.{◌≡◌, ◌++◌, map, take}
use Rattle.manual_units.specs.Units.{unit}
use Rattle.manual_units.proofs.units.push_units.Given as goal

abbrev pub invariant-loop-entry : goal.invariant-loop-entry
invariant-loop-entry l = l.units.items ≡ l.initial.units.items ++ map (unit l.block) (take l.entry-index l.entries)
