use Rattle.std.proofs.Common.{◌≡◌, ◌++◌, map, take}
use Rattle.c_header.specs.Enumerators.{enumerator_path}
use Rattle.c_header.specs.Names.{natural}
use Rattle.c_header.proofs.enumerations.push_naturals.Given as goal

abbrev pub invariant-loop-at : goal.invariant-loop-at
invariant-loop-at l = l.into.items ≡ l.initial.into.items ++ map (λ x. natural l.begin (enumerator_path l.encoding x.0)) (take l.at l.encoding.entries)
