use Rattle.std.proofs.Common.{◌≡◌, ◌≤◌, ◌++◌, ℕ, List, take, drop, length}
use Rattle.stim_csv.proofs.LikeRows.{CellsSoFar}
use Rattle.stim_csv.proofs.plain.cells_from.Given as goal

abbrev pub invariant-loop-column : goal.invariant-loop-column
invariant-loop-column l = record {
  within : l.at ≤ length l.text;
  long : length l.lengths ≡ length l.widths;
  measured : List ℕ;
  lengths_are : take l.column l.lengths ≡ take l.first l.fn.lengths ++ measured;
  row : List ℕ;
  added : l.numbers ≡ l.fn.numbers ++ row;
  read : CellsSoFar l.widths l.first l.column (drop l.start l.text) (drop l.at l.text) measured row;
}
