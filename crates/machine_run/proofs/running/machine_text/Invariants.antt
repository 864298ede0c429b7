use Rattle.std.proofs.Common.{◌≡◌, ◌<◌, ℕ, [], length, get_or, vec_len}
use Rattle.machine_run.specs.Runs.{output_pins}
use Rattle.machine_run.proofs.Runs.{Runs}
use Rattle.machine_run.proofs.running.machine_text.Given as goal

abbrev pub invariant-loop-at : goal.invariant-loop-at
invariant-loop-at l = record {
  runs : Runs l.block l.table l.at l.machine l.text.items;
  vector : (k : ℕ) → k < length l.table → length (get_or l.table k []) ≡ vec_len l.pins;
  room : vec_len l.outs ≡ length (output_pins l.block);
}
