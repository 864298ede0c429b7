use Rattle.std.proofs.Common.{take}
use Rattle.rdl_facts.specs.Places.{ArePlaces}
use Rattle.rdl_facts.proofs.places.Places.of.Given as goal

abbrev pub invariant-loop-number : goal.invariant-loop-number
invariant-loop-number l = ArePlaces l.places (take l.number l.enums)
