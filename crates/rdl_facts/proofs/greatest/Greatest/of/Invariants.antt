use Rattle.std.proofs.Common.{take}
use Rattle.rdl_facts.specs.Greatest.{AreEach}
use Rattle.rdl_facts.proofs.greatest.Greatest.of.Given as goal

abbrev pub invariant-loop-of : goal.invariant-loop-of
invariant-loop-of l = AreEach l.numbers.items (take l.of-index l.enums)
