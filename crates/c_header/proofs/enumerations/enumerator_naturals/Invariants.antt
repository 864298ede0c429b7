use Rattle.std.proofs.Common.{◌≡◌, take}
use Rattle.c_header.specs.Enumerators.{enumerator_naturals}
use Rattle.c_header.proofs.enumerations.enumerator_naturals.Given as goal

abbrev pub invariant-loop-encoding : goal.invariant-loop-encoding
invariant-loop-encoding l = l.names.items ≡ enumerator_naturals l.begin (take l.encoding-index l.list)
