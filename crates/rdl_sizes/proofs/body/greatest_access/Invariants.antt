use Rattle.std.proofs.Common.{◌≡◌, drop}
use Rattle.rdl_sizes.specs.Lots.{greatest_access}
use Rattle.rdl_sizes.proofs.body.greatest_access.Given as goal

abbrev pub invariant-loop-at : goal.invariant-loop-at
invariant-loop-at l = l.greatest ≡ greatest_access (drop l.at l.lots)
