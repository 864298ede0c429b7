use Rattle.std.proofs.Common.{◌≡◌, ◌≤◌, ◌*◌, ◌-◌, ◌++◌, map, length}
use Rattle.stim_csv.specs.PinTable.{first_problem, row_problem}
use Rattle.stim_csv.specs.Columns.{numbers_in, picked}
use Rattle.stim_csv.specs.Records.{Reads, records_left}
use Rattle.stim_csv.specs.Vectors.{cut}
use Rattle.stim_csv.proofs.stimulus.read_rows.Given as goal

abbrev pub invariant-loop-numbers : goal.invariant-loop-numbers
invariant-loop-numbers l = record {
  problem : first_problem (row_problem l.header.widths.items l.outputs) 0 (records_left l.fn.reader) ≡ first_problem (row_problem l.header.widths.items l.outputs) l.row (records_left l.reader);
  vectors : map (numbers_in l.header.columns.items) (records_left l.fn.reader)
      ≡ map (picked l.header.columns.items) (cut (length l.header.widths.items) l.row l.numbers) ++ map (numbers_in l.header.columns.items) (records_left l.reader);
  whole : length l.numbers ≡ l.row * length l.header.widths.items;
  reads : Reads l.reader;
  within : l.row ≤ 1000000;
}

abbrev pub decreases-loop-numbers : goal.decreases-loop-numbers
decreases-loop-numbers l = 1000000 - l.row
