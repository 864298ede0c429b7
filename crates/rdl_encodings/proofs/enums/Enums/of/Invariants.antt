use Rattle.std.proofs.Common.{◌-◌, length}
use Rattle.rdl_encodings.proofs.Along.{AreTo}
use Rattle.rdl_encodings.proofs.enums.Enums.of.Given as goal

abbrev pub invariant-bodies : goal.invariant-bodies
invariant-bodies l = AreTo l.list.items l.bodies

abbrev pub decreases-bodies : goal.decreases-bodies
decreases-bodies l = length l.bodies.list.items - length l.list.items
