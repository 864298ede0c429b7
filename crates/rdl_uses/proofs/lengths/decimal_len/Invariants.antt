use Rattle.std.proofs.Common.{◌≡◌, ◌+◌, ◌≤◌, length, decimal}
use Rattle.rdl_uses.proofs.lengths.decimal_len.Given as goal

abbrev pub invariant-loop-left : goal.invariant-loop-left
invariant-loop-left l = (l.len + length (decimal l.left) ≡ length (decimal l.number) + 1) × (l.left ≤ l.number)

abbrev pub decreases-loop-left : goal.decreases-loop-left
decreases-loop-left l = l.left
