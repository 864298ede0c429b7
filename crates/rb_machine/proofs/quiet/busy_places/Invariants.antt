use Rattle.std.proofs.Common.{◌≡◌, length}
use Rattle.rb_machine.specs.Quiet.{IsNextBusy}
use Rattle.rb_machine.proofs.Busy.{KnownFrom}
use Rattle.rb_machine.proofs.quiet.busy_places.Given as goal

abbrev pub invariant-loop-at : goal.invariant-loop-at
invariant-loop-at l = record {
  sized : length l.next.items ≡ length l.fields;
  known : KnownFrom l.fields l.next.items l.at;
  first : IsNextBusy l.fields l.at l.busy;
}
