use Rattle.std.proofs.Common.{◌≡◌, ◌++◌, replicate}
use Rattle.rdl_assignments.proofs.defaults.fill.Given as goal

abbrev pub invariant-loop : goal.invariant-loop
invariant-loop l = l.positions.items ≡ l.initial.positions.items ++ replicate l.counter l.position
