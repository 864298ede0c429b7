use Rattle.std.proofs.Common.{drop}
use Rattle.sim_lanes.specs.Runs.{AreRuns}
use Rattle.sim_lanes.proofs.runs.are_runs.Given as goal

abbrev pub invariant-loop-run : goal.invariant-loop-run
invariant-loop-run l = AreRuns l.rest (drop l.run-index l.runs) → AreRuns l.operations l.runs
