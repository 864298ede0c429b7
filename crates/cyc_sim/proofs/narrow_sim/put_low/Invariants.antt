use Rattle.std.proofs.Common.{◌≡◌, ◌+◌, ◌++◌, take, drop}
use Rattle.cyc_sim.specs.Narrow.{low_all}
use Rattle.cyc_sim.proofs.narrow_sim.put_low.Given as goal

abbrev pub invariant-loop-index : goal.invariant-loop-index
invariant-loop-index l = l.values ≡ take l.at l.fn.values ++ (take l.index (low_all l.numbers) ++ drop (l.at + l.index) l.fn.values)
