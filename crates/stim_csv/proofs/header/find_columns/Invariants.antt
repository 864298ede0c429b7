use Rattle.std.proofs.Common.{◌≡◌, map, take, drop}
use Rattle.csv.specs.Records.{fields_of}
use Rattle.stim_csv.specs.PinTable.{first_problem, column_problem, column_of, width_of}
use Rattle.stim_csv.proofs.header.find_columns.Given as goal

abbrev pub invariant-loop-column : goal.invariant-loop-column
invariant-loop-column l = record {
  problem : first_problem (column_problem l.pins (fields_of l.names)) 0 (fields_of l.names) ≡ first_problem (column_problem l.pins (fields_of l.names)) l.column (drop l.column (fields_of l.names));
  columns : l.columns.items ≡ map (λ p. column_of (take l.column (fields_of l.names)) p.name) l.pins;
  widths : l.widths.items ≡ map (width_of l.pins) (take l.column (fields_of l.names));
}
