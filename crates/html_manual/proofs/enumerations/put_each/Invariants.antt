use Rattle.std.specs.List.{enumerate_from}
use Rattle.std.proofs.Common.{flat_map, map, take}
use Rattle.html_text.specs.Writing.{Writes, at}
use Rattle.html_manual.specs.Enumerations.{enumeration_section}
use Rattle.html_manual.proofs.enumerations.put_each.Given as goal

abbrev pub invariant-loop-at : goal.invariant-loop-at
invariant-loop-at g l = Writes (at (g.K.Sink.told l.fn.out) (g.K.Sink.faults l.fn.out) l.fn.pen) (at (g.K.Sink.told l.out) (g.K.Sink.faults l.out) l.pen)
    (flat_map (enumeration_section l.sight (map (λ v. v.items) l.notes)) (take l.at (enumerate_from 0 l.list)))
