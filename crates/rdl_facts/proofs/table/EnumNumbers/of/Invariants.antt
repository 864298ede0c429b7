use Rattle.std.proofs.Common.{◌-◌, length}
use Rattle.rdl_facts.proofs.Along.{AreTo}
use Rattle.rdl_facts.proofs.table.EnumNumbers.of.Given as goal

abbrev pub invariant-bodies : goal.invariant-bodies
invariant-bodies l = AreTo l.list.items l.bodies

abbrev pub decreases-bodies : goal.decreases-bodies
decreases-bodies l = length l.bodies.list.items - length l.list.items
