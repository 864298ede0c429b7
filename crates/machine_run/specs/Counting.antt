-- Counting over whole numbers: v + up - down is compared with a number by moving down to the other side.
use Rattle.std.specs.Prelude.{◌≡◌, ℕ, ◌+◌, ◌<◌, Option, Some, None}
use Rattle.rb_model.specs.Effects.{counted, overflows, underflows}

-- the count goes up, and past the level high
abbrev pub PassesHigh : (v up down : ℕ) → Option ℕ → Type 0
PassesHigh v up down None = ⊥
PassesHigh v up down (Some high) = (0 < up) × (high + down < v + up)

-- the count goes down, and past the level low
abbrev pub PassesLow : (v up down : ℕ) → Option ℕ → Type 0
PassesLow v up down None = ⊥
PassesLow v up down (Some low) = (0 < down) × (v + up < low + down)

-- what a counter of w bits makes of v: its next value, and whether it overflows and underflows
pub record Counts (w v up down : ℕ) (high low : Option ℕ) (next overflow underflow : ℕ) : Type 0 where
  pub value : counted w v up down high low ≡ next
  pub over : overflows w v up down ≡ overflow
  pub under : underflows v up down ≡ underflow
