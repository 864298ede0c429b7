-- What a schedule knows of operations and values.
use Rattle.std.specs.Prelude.{◌≡◌, ℕ, ◌*◌, ◌≤◌, true, List, length}
use Rattle.sim_lanes.specs.Due.{IsCalm, IsFed}
use Rattle.sim_lanes.specs.declared.narrow.NarrowOperation.{NarrowOperation}
use Rattle.sim_lanes.specs.declared.schedule.Schedule.{Schedule}

-- A schedule is one of operations behind so many first places. Where it has all readers, it says so truly; and where it
-- is calm, the value of each operation that is not due is the one that it gives.
pub record IsSchedule (s : Schedule) (first : ℕ) (os : List NarrowOperation) (values : List ℕ) : Type 0 where
  pub room : length os ≤ 64 * length s.due.items
  pub fed : s.fed ≡ true → IsFed s.fan os
  pub calm : s.calm ≡ true → IsFed s.fan os × IsCalm s.due.items first os values
