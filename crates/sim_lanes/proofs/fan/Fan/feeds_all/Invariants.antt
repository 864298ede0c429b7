use Rattle.std.proofs.Common.{ℕ, ◌<◌, get_or}
use Rattle.sim_lanes.specs.Due.{Feeds}
use Rattle.sim_lanes.specs.declared.narrow.NarrowOperation.{NarrowOperation}
use Rattle.sim_lanes.proofs.fan.Fan.feeds_all.Given as goal

abbrev pub invariant-loop-index : goal.invariant-loop-index
invariant-loop-index l = (k : ℕ) → k < l.index → (d : NarrowOperation) → Feeds l.self k (get_or l.operations k d)
