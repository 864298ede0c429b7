use Rattle.std.proofs.Common.{◌≡◌, ◌*◌, map, take, length}
use Rattle.stim_csv.specs.Columns.{picked}
use Rattle.stim_csv.specs.Vectors.{cut}
use Rattle.stim_csv.proofs.ordering.by_pins.Given as goal

abbrev pub invariant-loop-row : goal.invariant-loop-row
invariant-loop-row l = record {
  rows : cut (length l.columns) l.row l.vectors ≡ map (picked l.columns) (take l.row (cut l.width l.rows l.fn.cells));
  whole : length l.vectors ≡ l.row * length l.columns;
}
