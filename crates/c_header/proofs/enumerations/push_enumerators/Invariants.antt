use Rattle.std.proofs.Common.{◌≡◌, ◌++◌, map, take}
use Rattle.c_header.specs.Enumerators.{enumerator_macro}
use Rattle.c_header.specs.Header.{lines}
use Rattle.c_header.proofs.enumerations.push_enumerators.Given as goal

abbrev pub invariant-loop-at : goal.invariant-loop-at
invariant-loop-at l = l.text.items ≡ l.initial.text.items ++ lines (map (enumerator_macro l.begin l.path l.repeats l.encoding) (take l.at l.encoding.entries))
