use Rattle.std.proofs.Common.{◌≡◌, ◌+◌, length}
use Rattle.sim_lanes.specs.Narrow.{AreBelow}
use Rattle.sim_lanes.specs.Runs.{AreRuns}
use Rattle.sim_lanes.proofs.Running.{SoFar}
use Rattle.sim_lanes.proofs.runs.settle_narrow.Given as goal

abbrev pub invariant-loop-run : goal.invariant-loop-run
invariant-loop-run l = record {
  below : AreBelow l.place l.rest;
  sized : length l.values ≡ l.place + length l.rest;
  settled : AreRuns l.operations l.runs → SoFar l.operations l.runs l.run-index l.first l.place l.fn.values l.values l.rest;
}
