-- The table of a dump.
use Rattle.std.specs.Prelude.{ℕ, List}
use Rattle.rb_base.specs.declared.ports.Pin.{Pin}

-- pins, and a row for each time with a value for each of them
pub record Table : Type 0 where
  pub pins : List Pin
  pub rows : List (List ℕ)
