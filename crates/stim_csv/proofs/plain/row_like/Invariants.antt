use Rattle.std.proofs.Common.{◌≡◌, ◌-◌, ◌++◌, ℕ, List, drop, length}
use Rattle.stim_csv.proofs.LikeRows.{LikeSoFar}
use Rattle.stim_csv.proofs.plain.row_like.Given as goal

abbrev pub invariant-loop-patience : goal.invariant-loop-patience
invariant-loop-patience l = record {
  row : List ℕ;
  added : l.numbers ≡ l.fn.numbers ++ row;
  like : LikeSoFar l.widths l.lengths (drop l.from l.fn.numbers) l.text l.column l.was l.at l.start row;
}

abbrev pub decreases-loop-patience : goal.decreases-loop-patience
decreases-loop-patience l = length l.widths - l.column
