use Rattle.std.proofs.Common.{◌≡◌, true}
use Rattle.v_design.specs.WellFormed.{distinct, names}
use Rattle.v_check.specs.Drivers.{IsUndriven, driver_at}
use Rattle.v_check.specs.Found.{Finds, StandsBefore}
use Rattle.v_check.specs.Nets.{nets_seen, numbers}
use Rattle.v_check.proofs.drivers.undriven.Given as goal

abbrev pub invariant-loop-index : goal.invariant-loop-index
invariant-loop-index l = distinct (names (nets_seen l.nets)) ≡ true
    → Finds (StandsBefore (IsUndriven (nets_seen l.nets) (driver_at l.nets l.drivers)) (numbers l.places) l.index) l.found
