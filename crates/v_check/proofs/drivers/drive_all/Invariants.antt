use Rattle.std.proofs.Common.{◌≡◌, true, length, List, take}
use Rattle.v_design.specs.Tree.{Statement}
use Rattle.v_design.specs.WellFormed.{distinct, names}
use Rattle.v_syntax.specs.Syntax.{AreStatements}
use Rattle.v_check.specs.Drivers.{AreDrivers, IsMisdriven, are_declared, driver_at}
use Rattle.v_check.specs.Found.{Finds, StandsBefore}
use Rattle.v_check.specs.Nets.{nets_seen}
use Rattle.v_check.specs.Sizes.{stmt_places}
use Rattle.v_check.proofs.drivers.drive_all.Given as goal

abbrev pub invariant-loop-index : goal.invariant-loop-index
invariant-loop-index l = record {
  count : length l.drivers.numbers.items ≡ length l.nets;
  drivers : (ss : List Statement) → AreStatements l.stmts l.events ss → are_declared (nets_seen l.nets) ss ≡ true → AreDrivers (driver_at l.nets l.drivers) (take l.index ss);
  found : distinct (names (nets_seen l.nets)) ≡ true → (ss : List Statement) → AreStatements l.stmts l.events ss → are_declared (nets_seen l.nets) ss ≡ true
      → Finds (StandsBefore (IsMisdriven (nets_seen l.nets) ss) (stmt_places l.stmts) l.index) l.misdriven;
  declared : l.declared ≡ true → distinct (names (nets_seen l.nets)) ≡ true → (ss : List Statement) → AreStatements l.stmts l.events ss
      → are_declared (nets_seen l.nets) (take l.index ss) ≡ true;
}
