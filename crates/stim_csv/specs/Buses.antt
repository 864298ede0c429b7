-- The bus at the rows of a table whose first pins are the bus's, and where they break its protocol (IHI 0024B).
use Rattle.std.specs.Prelude.{ℕ, ◌+◌, ◌<◌, ◌≤◌, List, length, take, slice_index}
use Rattle.rb_model.specs.Protocol.{Bus, KeepsProtocol}

-- the row has a number for each of the bus's six pins
abbrev pub HasBus : List ℕ → Type 0
HasBus row = 6 ≤ length row

-- the bus's pins come first in a row: PRESETn, PADDR, PSEL, PENABLE, PWRITE and PWDATA
abbrev pub bus_first : List ℕ → Bus
bus_first row = record {
  resetn = slice_index row 0;
  address = slice_index row 1;
  select = slice_index row 2;
  enable = slice_index row 3;
  write = slice_index row 4;
  data_in = slice_index row 5;
}

-- the row of this number is the first that isn't kept: those before it keep the protocol, and with it they don't
pub record IsFirstBreak (waits : ℕ) (buses : List Bus) (row : ℕ) : Type 0 where
  pub within : row < length buses
  pub before : KeepsProtocol waits (take row buses)
  pub breaks : ¬ KeepsProtocol waits (take (row + 1) buses)
