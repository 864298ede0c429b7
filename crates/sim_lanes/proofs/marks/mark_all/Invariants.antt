use Rattle.std.proofs.Common.{◌≡◌, ◌≢◌, ℕ, ◌*◌, ◌<◌, length, get_or}
use Rattle.sim_lanes.specs.Due.{due_at}
use Rattle.sim_lanes.proofs.marks.mark_all.Given as goal

abbrev pub invariant-loop-operation : goal.invariant-loop-operation
invariant-loop-operation l = record {
  kept : (k : ℕ) → due_at l.due k ≡ 0 → due_at l.fn.due k ≡ 0;
  marked : (i : ℕ) → i < l.operation-index → get_or l.operations i 0 < 64 * length l.fn.due → due_at l.due (get_or l.operations i 0) ≢ 0;
}
