use Rattle.std.proofs.Common.{map, take}
use Rattle.rdl_values.specs.Firsts.{HasNames}
use Rattle.rdl_failures.specs.Noted.{IsNoted}
use Rattle.rdl_scopes.specs.Named.{fails_twice}
use Rattle.rdl_scopes.proofs.components.note_twice.Given as goal

abbrev pub invariant-loop-at : goal.invariant-loop-at
invariant-loop-at l = record {
  known : HasNames l.firsts (map (λ x. x.text.now) (take l.at l.names));
  noted : IsNoted (fails_twice (take l.at l.names)) l.clean l.initial.failures l.failures;
}
