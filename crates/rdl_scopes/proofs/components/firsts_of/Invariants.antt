use Rattle.std.proofs.Common.{take}
use Rattle.rdl_scopes.specs.Named.{Knows}
use Rattle.rdl_scopes.proofs.components.firsts_of.Given as goal

abbrev pub invariant-loop-at : goal.invariant-loop-at
invariant-loop-at l = Knows l.firsts (take l.at l.items)
