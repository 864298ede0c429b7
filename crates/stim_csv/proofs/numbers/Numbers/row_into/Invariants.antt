use Rattle.std.proofs.Common.{◌≡◌, ◌*◌, take, drop}
use Rattle.stim_csv.proofs.numbers.Numbers.row_into.Given as goal

abbrev pub invariant-loop-at : goal.invariant-loop-at
invariant-loop-at l = take l.at l.into ≡ take l.at (drop (l.row * l.width) l.self)
