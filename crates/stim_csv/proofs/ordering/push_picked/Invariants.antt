use Rattle.std.proofs.Common.{◌≡◌, ◌*◌, ◌+◌, ◌++◌, map, take, slice_index}
use Rattle.stim_csv.proofs.ordering.push_picked.Given as goal

abbrev pub invariant-loop-column : goal.invariant-loop-column
invariant-loop-column l = l.vectors ≡ l.fn.vectors ++ map (λ c. slice_index l.cells (l.row * l.width + c)) (take l.column-index l.columns)
