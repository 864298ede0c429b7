use Rattle.std.proofs.Common.{◌≡◌, drop}
use Rattle.rdl_sizes.specs.Bodies as bodies
use Rattle.rdl_sizes.proofs.gathering.all_zero.Given as goal

abbrev pub invariant-loop-at : goal.invariant-loop-at
invariant-loop-at l = bodies.all_zero l.index ≡ bodies.all_zero (drop l.at-index l.index)
