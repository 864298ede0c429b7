use Rattle.rdl_refs.specs.Walk.{AreUnordered}
use Rattle.rdl_refs.proofs.ordering.unordered.Given as goal

abbrev pub invariant-loop-thing : goal.invariant-loop-thing
invariant-loop-thing l = AreUnordered l.ranks l.places l.thing l.faults.items
