use Rattle.std.proofs.Common.{map, take}
use Rattle.rdl_values.specs.Firsts.{HasNames}
use Rattle.rdl_failures.specs.Noted.{IsNoted}
use Rattle.rdl_scopes.specs.Entries.{clash_fails, pair}
use Rattle.rdl_scopes.proofs.Entered.{HasNumbers}
use Rattle.rdl_scopes.proofs.entries.note_clashes.Given as goal

abbrev pub invariant-loop-at : goal.invariant-loop-at
invariant-loop-at l = record {
  known : HasNames l.names (map (λ e. e.0.text.now) (map pair (take l.at l.entries)));
  numbered : HasNumbers l.numbers.keys (map pair (take l.at l.entries));
  noted : IsNoted (clash_fails (map pair (take l.at l.entries))) l.clean l.initial.failures l.failures;
}
