use Rattle.std.proofs.Common.{◌≡◌, ◌≤◌, take}
use Rattle.std.specs.List.{sum}
use Rattle.stim_csv.proofs.plain.cells_within.Given as goal

abbrev pub invariant-loop-count : goal.invariant-loop-count
invariant-loop-count l = record {
  bytes : l.bytes ≡ sum (take l.count l.lengths);
  within : l.bytes ≤ l.most;
}
