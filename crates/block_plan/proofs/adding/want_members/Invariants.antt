use Rattle.std.proofs.Common.{take}
use Rattle.std.specs.List.{flat_map}
use Rattle.block_plan.specs.Wanted.{Adds}
use Rattle.block_plan.proofs.Needing.{member_at}
use Rattle.block_plan.proofs.adding.want_members.Given as goal

abbrev pub invariant-loop-number : goal.invariant-loop-number
invariant-loop-number l = Adds l.fn.wanted l.wanted (flat_map (member_at l.block l.halt) (take l.number-index l.number-items))
