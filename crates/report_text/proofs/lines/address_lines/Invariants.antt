use Rattle.std.proofs.Common.{◌≡◌}
use Rattle.report_text.proofs.Rows.{lines_to}
use Rattle.report_text.proofs.lines.address_lines.Given as goal

abbrev pub invariant-loop-at : goal.invariant-loop-at
invariant-loop-at l = l.text.items ≡ lines_to l.block l.at
