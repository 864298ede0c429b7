use Rattle.std.proofs.Common.{◌≡◌, ℕ, [], length}
use Rattle.block_plan.specs.Plan.{members_at}
use Rattle.block_plan.proofs.members.no_members.Given as goal

abbrev pub invariant-loop : goal.invariant-loop
invariant-loop l = record {
  sized : length l.all.items ≡ l.counter;
  empty : (r : ℕ) → members_at l.all.items r ≡ [];
}
