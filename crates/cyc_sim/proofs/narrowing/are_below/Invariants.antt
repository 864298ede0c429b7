use Rattle.std.proofs.Common.{ℕ, ◌+◌, ◌<◌, get_or}
use Rattle.sim_lanes.specs.Narrow.{IsBelow}
use Rattle.sim_lanes.specs.declared.narrow.NarrowOperation.{NarrowOperation}
use Rattle.cyc_sim.proofs.narrowing.are_below.Given as goal

abbrev pub invariant-loop-index : goal.invariant-loop-index
invariant-loop-index l = (k : ℕ) → k < l.index → (d : NarrowOperation) → IsBelow (l.first + k) (get_or l.operations k d)
