use Rattle.std.proofs.Common.{◌≡◌, ◌≤◌, ◌-◌, take, length}
use Rattle.stim_csv.proofs.alike.bytes_alike.Given as goal

abbrev pub invariant-loop-at : goal.invariant-loop-at
invariant-loop-at l = record {
  one : l.within ≤ length l.one;
  other : l.within ≤ length l.other;
  within : l.at ≤ l.within;
  alike : take l.at l.one ≡ take l.at l.other;
}

abbrev pub decreases-loop-at : goal.decreases-loop-at
decreases-loop-at l = l.within - l.at
