use Rattle.std.proofs.Common.{◌≡◌, ℕ, ◌+◌, ◌≤◌, ◌++◌, List, length, take, drop}
use Rattle.sim_lanes.specs.Due.{IsCalm, IsFed}
use Rattle.sim_lanes.specs.declared.narrow.NarrowOperation.{NarrowOperation}
use Rattle.sim_lanes.proofs.moves.change_all.Given as goal

abbrev pub invariant-loop-index : goal.invariant-loop-index
invariant-loop-index l = record {
  values : l.values ≡ take l.at l.fn.values ++ (take l.index l.numbers ++ drop (l.at + l.index) l.fn.values);
  calm : (first : ℕ) (os : List NarrowOperation) → l.at + length l.numbers ≤ first → IsFed l.fan os → IsCalm l.fn.due first os l.fn.values → IsCalm l.due first os l.values;
}
