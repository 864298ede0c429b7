use Rattle.std.proofs.Common.{◌≡◌, take}
use Rattle.v_check.specs.Drivers.{driver_of}
use Rattle.v_check.specs.Loops.{numbers_of}
use Rattle.v_check.proofs.loops.needs_of.Given as goal

abbrev pub invariant-loop-net : goal.invariant-loop-net
invariant-loop-net l = l.needs.items ≡ numbers_of (driver_of l.drivers) (take l.net-index l.reads)
