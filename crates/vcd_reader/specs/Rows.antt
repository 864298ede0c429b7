-- What becomes of the rows that a reader keeps.
use Rattle.std.specs.Prelude.{◌≡◌, ℕ, ◌+◌, ◌*◌, ◌<◌, ◌&&◌, nat_lt, nat_le, if◌then◌else◌, Option, Some, None, List, ◌++◌, map, slice_get}
use Rattle.vcd_syntax.specs.Faulty.{most_times, most_values}
use Rattle.vcd_syntax.specs.Known.{is_above}
use Rattle.vcd_reader.specs.declared.rows.Came.{Came}
use Rattle.vcd_reader.specs.declared.rows.Came.TheVariants.{Next, Late, Many}
use Rattle.vcd_reader.specs.declared.rows.Rows.{Rows}

-- the values of a row stand behind the others, or the first that is none has this number
abbrev pub IsAdded : (old new : List ℕ) → List (Option ℕ) → Option ℕ → Type 0
IsAdded old new now None = (row : List ℕ) × (new ≡ old ++ row) × (map Some row ≡ now)
IsAdded old new now (Some i) = (slice_get now i ≡ Some None) × ((j : ℕ) → j < i → slice_get now j ≡ Some None → ⊥)

-- how a time goes on with the last of so many, where there are so many variables
abbrev pub came_by : Option ℕ → ℕ → Option ℕ → ℕ → Came
came_by last times None variables = Late
came_by last times (Some time) variables = if is_above last time then (if nat_lt times most_times && nat_le ((times + 1) * variables) most_values then Next time else Many) else Late

-- the rows with that of the last time
abbrev pub ClosesAt : Option ℕ → Option ℕ → (old new : Rows) → List (Option ℕ) → Type 0
ClosesAt None missing old new now = new ≡ old
ClosesAt (Some t) (Some i) old new now = new ≡ old
ClosesAt (Some t) None old new now = (new.last ≡ old.last) × (new.times ≡ old.times) × IsAdded old.values new.values now new.missing

abbrev pub Closes : (old new : Rows) → List (Option ℕ) → Type 0
Closes old new now = ClosesAt old.last old.missing old new now

-- the rows with that of the last time, behind which one more time came
pub record Comes (old new : Rows) (now : List (Option ℕ)) (time : ℕ) : Type 0 where
  pub closed : Rows
  pub closes : Closes old closed now
  pub last : new.last ≡ Some time
  pub times : new.times ≡ old.times + 1
  pub values : new.values ≡ closed.values
  pub missing : new.missing ≡ closed.missing
