use Rattle.std.proofs.Common.{flat_map, length}
use Rattle.html_text.specs.Escaped.{escaped, meant_from, reference}
use Rattle.html_text.specs.Writing.{at}
use Rattle.html_text.proofs.Looping.{Goes}
use Rattle.html_text.proofs.escaped.put_escaped.Given as goal

abbrev pub invariant-loop-rest : goal.invariant-loop-rest
invariant-loop-rest g l = Goes (at (g.K.Sink.told l.fn.out) (g.K.Sink.faults l.fn.out) l.fn.pen) (at (g.K.Sink.told l.out) (g.K.Sink.faults l.out) l.pen)
    (escaped l.fn.bytes) (flat_map (reference l.good) (meant_from l.taken l.rest))

abbrev pub decreases-loop-rest : goal.decreases-loop-rest
decreases-loop-rest g l = length l.rest
