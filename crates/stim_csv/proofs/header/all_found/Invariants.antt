use Rattle.std.proofs.Common.{◌≡◌, Some, map, take, drop}
use Rattle.stim_csv.specs.PinTable.{first_problem}
use Rattle.stim_csv.specs.Columns.{unfound_problem}
use Rattle.stim_csv.proofs.header.all_found.Given as goal

abbrev pub invariant-loop-pin : goal.invariant-loop-pin
invariant-loop-pin l = record {
  problem : first_problem unfound_problem 0 l.columns ≡ first_problem unfound_problem l.pin (drop l.pin l.columns);
  found : map Some l.found.items ≡ take l.pin l.columns;
}
