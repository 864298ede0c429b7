-- The rows of a table have the bus's pins.
use Rattle.std.specs.List.{AllByRecursion}
use Rattle.std.proofs.Common.{◌≡◌, ℕ, zero, suc, ◌<◌, List, [], ◌∷◌, length, map, get_or, refl, arith}
use Rattle.rb_model.specs.Protocol.{idle}
use Rattle.stim_csv.specs.Buses.{HasBus, bus_first}

pub row_has : (rows : List (List ℕ)) (i : ℕ) → AllByRecursion HasBus rows → i < length rows → HasBus (get_or rows i [])
row_has [] i h l = absurd (omega (arith, l))
row_has (r ∷ rs) zero h l = h.0
row_has (r ∷ rs) (suc i) h l = row_has rs i h.1 (omega (arith, l))

pub bus_there : (rows : List (List ℕ)) (i : ℕ) → i < length rows → bus_first (get_or rows i []) ≡ get_or (map bus_first rows) i idle
bus_there [] i l = absurd (omega (arith, l))
bus_there (r ∷ rs) zero l = refl
bus_there (r ∷ rs) (suc i) l = bus_there rs i (omega (arith, l))
