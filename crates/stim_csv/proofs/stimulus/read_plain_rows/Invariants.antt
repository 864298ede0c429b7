use Rattle.std.proofs.Common.{◌≡◌, ◌≢◌, ◌≤◌, ◌*◌, ◌-◌, ◌++◌, map, drop, length}
use Rattle.stim_csv.specs.PinTable.{first_problem, row_problem}
use Rattle.stim_csv.specs.Columns.{numbers_in, picked}
use Rattle.stim_csv.specs.Plain.{HasRow, rows_at}
use Rattle.stim_csv.specs.Vectors.{cut}
use Rattle.stim_csv.proofs.stimulus.read_plain_rows.Given as goal

abbrev pub invariant-loop-at : goal.invariant-loop-at
invariant-loop-at l = record {
  problem : first_problem (row_problem l.widths l.outputs) 0 (rows_at l.text l.start) ≡ first_problem (row_problem l.widths l.outputs) l.row (rows_at l.text l.at);
  vectors : map (numbers_in l.columns) (rows_at l.text l.start) ≡ map (picked l.columns) (cut (length l.widths) l.row l.numbers) ++ map (numbers_in l.columns) (rows_at l.text l.at);
  whole : length l.numbers ≡ l.row * length l.widths;
  inside : l.at ≤ length l.text;
  within : l.row ≤ 1000000;
  long : length l.lengths.items ≡ length l.widths;
  passed : l.before ≤ length l.text;
  last : l.before ≢ l.at → HasRow l.widths (drop l.before l.text) (drop l.at l.text) l.lengths.items l.numbers;
}

abbrev pub decreases-loop-at : goal.decreases-loop-at
decreases-loop-at l = 1000000 - l.row
