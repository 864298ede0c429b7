use Rattle.std.proofs.Common.{◌≡◌, take}
use Rattle.report_text.specs.KeptRow.{cell_lengths, next_cells}
use Rattle.report_text.proofs.row_printer.RowPrinter.new.Given as goal

abbrev pub invariant-loop-number : goal.invariant-loop-number
invariant-loop-number l = record {
  lengths : l.lengths.items ≡ cell_lengths (take l.number-index l.numbers);
  cells : l.cells.items ≡ next_cells (take l.number-index l.numbers);
}
