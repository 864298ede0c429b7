use Rattle.std.proofs.Common.{◌≡◌, ◌++◌, Some, List, ℕ, map, take}
use Rattle.vcd_reader.proofs.rows.push_row.Given as goal

abbrev pub invariant-loop-at : goal.invariant-loop-at
invariant-loop-at l = (row : List ℕ) × (l.values ≡ l.fn.values ++ row) × (map Some row ≡ take l.at l.now)
