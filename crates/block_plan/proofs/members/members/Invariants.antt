use Rattle.std.proofs.Common.{◌≡◌, ℕ, length, take}
use Rattle.block_plan.specs.Plan.{members_among, members_at}
use Rattle.block_plan.proofs.members.members.Given as goal

abbrev pub invariant-loop-index : goal.invariant-loop-index
invariant-loop-index l = record {
  sized : length l.all.items ≡ l.regs;
  listed : (r : ℕ) → members_at l.all.items r ≡ members_among (take l.index l.fields) r;
}
