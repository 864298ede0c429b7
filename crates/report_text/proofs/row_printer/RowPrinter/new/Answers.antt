use Rattle.std.proofs.Common.{◌∙◌, ◌≡◌, ap, arith, sym, take}
use Rattle.std.proofs.lemmas.List.{take_all}
use Rattle.report_text.specs.KeptRow.{cell_lengths, next_cells}
use Rattle.report_text.proofs.row_printer.RowPrinter.new.Goals as goal

pub invariant_of-result : goal.invariant_of-result
invariant_of-result c =
    let all : take c.loop-number.number-index c.args.numbers.now ≡ c.in_ok-from_slice.field-0.items = take_all c.loop-number.number-index c.args.numbers.now (omega arith) ∙ sym c.in_ok-from_slice.ensures.items in
    record {
      measured = c.loop-number.invariant.lengths ∙ ap cell_lengths all;
      printed = c.loop-number.invariant.cells ∙ ap next_cells all;
    }
