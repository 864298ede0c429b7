use Rattle.std.proofs.Common.{◌∷◌, length, ap, arith, length-append}
use Rattle.report_text.specs.Printed.{cell}
use Rattle.report_text.proofs.Digits.{few_digits}
use Rattle.report_text.proofs.row_printer.push_measured.Goals as goal

pub overflow_cast-result : goal.overflow_cast-result
overflow_cast-result c =
    omega (arith, few_digits c.args.number, ap length c.in_ok-push_next.ensures, length-append c.args.next.now.items (44 ∷ cell c.args.number), c.len.ensures, c.len-before.ensures, c.push_next.new.text.ok.0, c.args.next.now.ok.0)
