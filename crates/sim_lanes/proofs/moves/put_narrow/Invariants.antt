use Rattle.std.proofs.Common.{◌≡◌, ◌+◌, ◌++◌, take, drop}
use Rattle.sim_lanes.proofs.moves.put_narrow.Given as goal

abbrev pub invariant-loop-index : goal.invariant-loop-index
invariant-loop-index l = l.values ≡ take l.at l.fn.values ++ (take l.index l.numbers ++ drop (l.at + l.index) l.fn.values)
