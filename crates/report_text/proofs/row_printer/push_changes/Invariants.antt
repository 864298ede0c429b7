use Rattle.std.proofs.Common.{◌≡◌, ◌≤◌, ◌++◌, length, drop}
use Rattle.report_text.specs.KeptRow.{cell_lengths, next_cell}
use Rattle.report_text.proofs.Kept.{before, renewed}
use Rattle.report_text.proofs.row_printer.push_changes.Given as goal

abbrev pub invariant-loop-index : goal.invariant-loop-index
invariant-loop-index l = record {
  moved : l.moved ≤ l.index;
  from : l.from ≤ l.to;
  to : l.to ≡ length (before next_cell l.index l.initial.kept);
  kept : l.kept ≡ renewed l.index l.numbers l.initial.kept;
  lengths : l.lengths ≡ cell_lengths l.kept;
  next : l.next.items ++ drop l.from (before next_cell l.index l.initial.kept) ≡ l.initial.next.items ++ before next_cell l.index l.numbers;
}
