-- Narrow operations of one kind behind one another.
use Rattle.std.specs.Prelude.{◌≡◌, ℕ, ◌<◌, ◌≤◌, List, [], ◌∷◌, length, take, drop, slice_index_or}
use Rattle.sim_lanes.specs.declared.narrow.Kind.{Kind}
use Rattle.sim_lanes.specs.declared.narrow.NarrowOperation.{NarrowOperation}
use Rattle.sim_lanes.specs.declared.runs.Run.{Run}

-- operations are of a kind
pub record AreOf (kind : Kind) (os : List NarrowOperation) : Type 0 where
  pub each : (k : ℕ) (d : NarrowOperation) → k < length os → (slice_index_or os k d).kind ≡ kind

-- operations are those of runs, as many as each of these has of its kind, one run behind the other
unfoldable pub AreRuns : List NarrowOperation → List Run → Type 0
AreRuns os [] = os ≡ []
AreRuns os (r ∷ rs) = (r.count ≤ length os) × AreOf r.kind (take r.count os) × AreRuns (drop r.count os) rs
