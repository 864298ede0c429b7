-- Where the values of a program stand in a narrow one.
use Rattle.std.specs.Prelude.{◌≡◌, ℕ, ◌+◌, ◌<◌, true, List, length, slice_index, slice_index_or}
use Rattle.sim_lanes.specs.Narrow.{value_at}
use Rattle.cyc_sim.specs.Operations.{is_within, value_by}
use Rattle.cyc_sim.specs.declared.arrangement.Arrangement.{Arrangement}
use Rattle.sim_lanes.specs.declared.narrow.NarrowOperation.{NarrowOperation}
use Rattle.cyc_sim.specs.declared.operation.Operation.{Operation}
use Rattle.cyc_sim.specs.declared.operation.Operation.TheVariants.{Constant}

-- behind the first places are the constants
abbrev pub HasConstants : ℕ → List ℕ → List ℕ → Type 0
HasConstants first constants values = (c : ℕ) → c < length constants → slice_index values (first + c) ≡ slice_index constants c

-- the places of those below a limit have the same values
abbrev pub AreAlike : List ℕ → ℕ → List ℕ → List ℕ → Type 0
AreAlike places limit olds news = (p : ℕ) → p < limit → slice_index news (slice_index places p) ≡ slice_index olds p

-- a narrow operation gives what an operation gives, where what they read has the same values
pub record Stands (a : Arrangement) (o : Operation) (n : NarrowOperation) : Type 0 where
  pub same : (limit : ℕ) (olds news : List ℕ) → is_within limit o ≡ true → HasConstants a.first a.constants.items news → AreAlike a.places.items limit olds news → value_at news n ≡ value_by olds o

-- a narrow operation stands for the one of a place
pub record StandsAt (a : Arrangement) (os : List Operation) (place : ℕ) (n : NarrowOperation) : Type 0 where
  pub stands : (k : ℕ) (d : Operation) → place ≡ a.first + k → Stands a (slice_index_or os k d) n

-- a place has a constant's value
pub record IsConstant (a : Arrangement) (place value : ℕ) : Type 0 where
  pub index : ℕ
  pub below : index < length a.constants.items
  pub at : place ≡ a.first + index
  pub is : slice_index a.constants.items index ≡ value

-- a place is that of the operation which an old place was of
pub record IsTurn (a : Arrangement) (place old : ℕ) : Type 0 where
  pub index : ℕ
  pub below : index < length a.order.items
  pub at : place ≡ a.first + length a.constants.items + index
  pub is : slice_index a.order.items index ≡ old

-- an operation's place is the constant's, or the operation's
abbrev pub IsPlaced : Arrangement → ℕ → Operation → Type 0
IsPlaced a old (Constant value) = IsConstant a (slice_index a.places.items old) value
IsPlaced a old o = IsTurn a (slice_index a.places.items old) old

-- the first places stay, and each operation has a place
pub record IsArrangement (a : Arrangement) (os : List Operation) : Type 0 where
  pub kept : (p : ℕ) → p < a.first → slice_index a.places.items p ≡ p
  pub each : (k : ℕ) (d : Operation) → k < length os → IsPlaced a (a.first + k) (slice_index_or os k d)
