use Rattle.rdl_reset_rules.specs.Nearest.{AreNearestTo}
use Rattle.rdl_reset_rules.proofs.nearest.nearest_resets.Given as goal

abbrev pub invariant-loop-at : goal.invariant-loop-at
invariant-loop-at l = AreNearestTo l.elab l.at l.nearest.items
