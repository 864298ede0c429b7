use Rattle.std.proofs.Common.{◌≡◌, ◌++◌, ◌<◌, ◌≤◌, ◌-◌, drop, map, take}
use Rattle.rdl_values.specs.Rows.{product, row}
use Rattle.rdl_walk.proofs.Lengths.{index_bytes}
use Rattle.rdl_walk.proofs.row.row_of.Given as goal

abbrev pub invariant-loop-at : goal.invariant-loop-at
invariant-loop-at l =
    (l.index.items ++ row (drop l.at l.dims) l.left ≡ row l.dims l.number) × (l.left < product (drop l.at l.dims)) × (l.left ≤ l.number)
    × (index_bytes l.index.items ≤ index_bytes (map (λ d. d - 1) (take l.at l.dims)))
