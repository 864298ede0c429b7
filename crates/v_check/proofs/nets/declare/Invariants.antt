use Rattle.std.proofs.Common.{take}
use Rattle.v_design.specs.WellFormed.{names}
use Rattle.v_check.specs.Found.{Finds, StandsBefore}
use Rattle.v_check.specs.Nets.{AreNets, IsTwice, nets_seen, numbers}
use Rattle.v_check.proofs.nets.declare.Given as goal

abbrev pub invariant-loop-index : goal.invariant-loop-index
invariant-loop-index l = record {
  table : AreNets l.table (take l.index l.nets);
  found : Finds (StandsBefore (IsTwice (names (nets_seen l.nets))) (numbers l.places) l.index) l.found;
}
