use Rattle.std.proofs.Common.{◌≡◌, ◌++◌, map, take, drop}
use Rattle.csv.specs.Records.{fields_of}
use Rattle.stim_csv.specs.PinTable.{first_problem, cell_problem, number_of}
use Rattle.stim_csv.proofs.header.read_cells.Given as goal

abbrev pub invariant-loop-column : goal.invariant-loop-column
invariant-loop-column l = record {
  problem : first_problem (cell_problem l.widths l.row) 0 (fields_of l.cells) ≡ first_problem (cell_problem l.widths l.row) l.column (drop l.column (fields_of l.cells));
  numbers : l.numbers ≡ l.fn.numbers ++ map number_of (take l.column (fields_of l.cells));
}
