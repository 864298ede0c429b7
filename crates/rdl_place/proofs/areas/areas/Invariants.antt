use Rattle.rdl_place.proofs.Keeping.{AreFirst}
use Rattle.rdl_place.proofs.areas.areas.Given as goal

abbrev pub invariant-loop-at : goal.invariant-loop-at
invariant-loop-at l = AreFirst l.addresses l.measures l.at l.areas.items
