use Rattle.std.proofs.Common.{◌≡◌, ◌+◌, ◌≤◌, length, take, drop}
use Rattle.sim_lanes.specs.Narrow.{narrow_after}
use Rattle.sim_lanes.specs.Runs.{AreOf}
use Rattle.sim_lanes.proofs.runs.settle_kind.Given as goal

abbrev pub invariant-loop-index : goal.invariant-loop-index
invariant-loop-index l = record {
  sized : l.first + length l.operations ≤ length l.values;
  values : AreOf l.kind l.operations → narrow_after l.operations (take l.first l.fn.values) ≡ narrow_after (drop l.index l.operations) (take (l.first + l.index) l.values);
}
