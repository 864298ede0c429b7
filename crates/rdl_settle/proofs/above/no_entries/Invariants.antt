use Rattle.std.proofs.Common.{◌≡◌, ℕ, [], length}
use Rattle.rdl_layers.specs.Tables.{entries_at}
use Rattle.rdl_settle.proofs.above.no_entries.Given as goal

abbrev pub invariant-loop : goal.invariant-loop
invariant-loop l = record {
  sized : length l.list.items ≡ l.counter;
  none : (j : ℕ) → entries_at l.list.items j ≡ [];
}
