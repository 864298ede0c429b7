use Rattle.std.proofs.Common.{◌≡◌, ◌<◌, ℕ, [], length, get_or, vec_len}
use Rattle.v_design.specs.Design.{outputs}
use Rattle.v_design.specs.Seen.{module_seen}
use Rattle.sim_run.proofs.Runs.{Runs}
use Rattle.sim_run.proofs.running.module_run.Given as goal

abbrev pub invariant-loop-at : goal.invariant-loop-at
invariant-loop-at l = record {
  runs : Runs (module_seen l.design) l.table l.at l.sim l.text.items;
  vector : (k : ℕ) → k < length l.table → length (get_or l.table k []) ≡ vec_len l.pins;
  room : vec_len l.outs ≡ length (outputs (module_seen l.design));
}
