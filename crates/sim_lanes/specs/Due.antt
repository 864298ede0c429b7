-- Which operations are due, and what is known of the others.
use Rattle.std.specs.Prelude.{◌≡◌, ◌≢◌, ℕ, ◌+◌, ◌*◌, ◌/◌, ◌<◌, ◌≤◌, ◌%◌, List, length, slice_index, slice_index_or}
use Rattle.std.specs.Int.{bit_at}
use Rattle.sim_lanes.specs.Narrow.{value_at}
use Rattle.sim_lanes.specs.declared.fan.Fan.{Fan}
use Rattle.sim_lanes.specs.declared.narrow.NarrowOperation.{NarrowOperation}

-- 1 where an operation is due, by its bit in these words
unfoldable pub due_at : List ℕ → ℕ → ℕ
due_at due k = bit_at (slice_index due (k / 64)) (k % 64)

-- no operation is due
abbrev pub AreClear : List ℕ → Type 0
AreClear due = (k : ℕ) → due_at due k ≡ 0

-- these operations are due, and all that were before
pub record Marks (operations old new : List ℕ) : Type 0 where
  pub kept : (k : ℕ) → due_at new k ≡ 0 → due_at old k ≡ 0
  pub marked : (i : ℕ) → i < length operations → slice_index operations i < 64 * length old → due_at new (slice_index operations i) ≢ 0

-- a number is one of these
pub record IsAmong (numbers : List ℕ) (number : ℕ) : Type 0 where
  pub index : ℕ
  pub below : index < length numbers
  pub is : slice_index numbers index ≡ number

-- an operation stands among those of a place in a fan
pub record IsReader (fan : Fan) (place operation : ℕ) : Type 0 where
  pub index : ℕ
  pub placed : place + 1 < length fan.starts.items
  pub from : slice_index fan.starts.items place ≤ index
  pub below : index < slice_index fan.starts.items (place + 1)
  pub within : slice_index fan.starts.items (place + 1) ≤ length fan.readers.items
  pub is : slice_index fan.readers.items index ≡ operation

-- an operation of this number stands among those of each place that it reads
pub record Feeds (fan : Fan) (operation : ℕ) (o : NarrowOperation) : Type 0 where
  pub first : IsReader fan o.first operation
  pub second : IsReader fan o.second operation
  pub third : IsReader fan o.third operation

-- each operation stands among those of each place that it reads
pub record IsFed (fan : Fan) (os : List NarrowOperation) : Type 0 where
  pub each : (k : ℕ) (d : NarrowOperation) → k < length os → Feeds fan k (slice_index_or os k d)

-- an operation is due that was, and one that reads a place where another value stood
pub record Changes (fan : Fan) (place value : ℕ) (values old new : List ℕ) : Type 0 where
  pub kept : (k : ℕ) → due_at new k ≡ 0 → due_at old k ≡ 0
  pub moved : (k : ℕ) → k < 64 * length old → IsReader fan place k → due_at new k ≡ 0 → slice_index values place ≡ value

-- the value of each operation that is not due is the one that it gives
pub record IsCalm (due : List ℕ) (first : ℕ) (os : List NarrowOperation) (values : List ℕ) : Type 0 where
  pub room : length os ≤ 64 * length due
  pub each : (k : ℕ) (d : NarrowOperation) → k < length os → due_at due k ≡ 0 → slice_index values (first + k) ≡ value_at values (slice_index_or os k d)
