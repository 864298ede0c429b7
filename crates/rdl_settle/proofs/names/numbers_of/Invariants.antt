use Rattle.std.proofs.Common.{◌-◌, length}
use Rattle.rdl_settle.proofs.Naming.{AreFirst}
use Rattle.rdl_settle.proofs.names.numbers_of.Given as goal

abbrev pub invariant-bodies : goal.invariant-bodies
invariant-bodies l = AreFirst l.fn.bodies.list.items l.list.items

abbrev pub decreases-bodies : goal.decreases-bodies
decreases-bodies l = length l.fn.bodies.list.items - length l.list.items
