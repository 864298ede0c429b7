-- Places as a map keeps them.
use Rattle.std.specs.Prelude.{◌≡◌, ℕ, ◌<◌, ◌^◌, List, cond, length, nat_lt}
use Rattle.rdl_addr.specs.Areas.{area_at}
use Rattle.rdl_addr.specs.declared.map.Area.{Area}
use Rattle.rdl_sizes.specs.declared.known.Measure.{Measure}
use Rattle.rdl_sizes.specs.Sized.{measure_at}
use Rattle.rdl_sizes.specs.Addresses.{address_at}

-- a number of 64 bits, or 0
abbrev pub narrow : ℕ → ℕ
narrow n = cond (nat_lt n (2 ^ 64)) n 0

abbrev pub area : ℕ → ℕ → Area
area address size = record { address = narrow address; size = narrow size }

-- Places are kept of addresses and sizes, node by node.
pub record AreAreas (addresses : List ℕ) (measures : List Measure) (ss : List Area) : Type 0 where
  pub many : length ss ≡ length addresses
  pub each : (k : ℕ) → k < length ss → area_at ss k ≡ area (address_at addresses k) (measure_at measures k).size
