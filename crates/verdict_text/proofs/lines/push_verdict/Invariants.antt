use Rattle.std.proofs.Common.{◌≡◌, ◌++◌, take}
use Rattle.verdict_text.specs.Lines.{verdict_lines}
use Rattle.verdict_text.specs.LineColumns.{IsLineColumn}
use Rattle.verdict_text.proofs.lines.push_verdict.Given as goal

abbrev pub invariant-loop-fault : goal.invariant-loop-fault
invariant-loop-fault l = record {
  spot : IsLineColumn l.source l.spot;
  lines : l.text.items ≡ l.fn.text.items ++ verdict_lines l.file l.source (take l.fault-index l.faults);
}
