use Rattle.std.proofs.Common.{◌≡◌, ◌∙◌, ◌++◌, ◌∷◌, [], OnOk, ap, drop, map, subst}
use Rattle.report_text.specs.KeptRow.{next_cells}
use Rattle.report_text.specs.Printed.{cell, line}
use Rattle.report_text.proofs.Kept.{line_is}
use Rattle.report_text.proofs.row_printer.RowPrinter.push.Goals as goal

pub returns : goal.returns
returns c =
    let shown : c.deref.result.now ≡ next_cells c.args.numbers.now = c.deref.ensures.value ∙ (c.in_ok-moved.ensures.cells.printed ∙ ap next_cells c.in_ok-moved.ensures.numbers) in
    let is : drop 1 c.deref.result.now ++ 10 ∷ [] ≡ line (map cell c.args.numbers.now) = ap (λ z. drop 1 z ++ 10 ∷ []) shown ∙ line_is c.args.numbers.now in
    subst (λ z. OnOk c.push_line.result (c.push_line.new.text.items ≡ c.args.text.now.items ++ z)) is c.push_line.ensures
