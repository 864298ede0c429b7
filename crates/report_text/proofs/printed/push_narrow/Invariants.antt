use Rattle.std.proofs.Common.{◌≡◌, ◌+◌, ◌*◌, ◌/◌, ◌^◌, ◌≤◌, ◌++◌, false, codes}
use Rattle.std.specs.Fmt.{digits}
use Rattle.std.specs.Vec.{vec_len, vec_capacity}
use Rattle.report_text.proofs.printed.push_narrow.Given as goal

abbrev pub invariant-loop-behind : goal.invariant-loop-behind
invariant-loop-behind l = record {
  few : l.behind ≤ 15;
  room : vec_len l.text + l.behind ≤ vec_capacity l.text;
  more : 1 ≤ l.behind → 2 ^ (4 * l.behind) ≤ l.number;
  text : l.text.items ≡ l.fn.text.items ++ (codes "0x" ++ digits 16 false (l.number / 2 ^ (4 * l.behind)));
}

abbrev pub decreases-loop-behind : goal.decreases-loop-behind
decreases-loop-behind l = l.behind
