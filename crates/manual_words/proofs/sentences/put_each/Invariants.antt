use Rattle.std.proofs.Common.{flat_map, length}
use Rattle.html_text.specs.Writing.{at}
use Rattle.html_text.proofs.Looping.{Goes}
use Rattle.manual_words.specs.Sentences.{point}
use Rattle.manual_words.proofs.sentences.put_each.Given as goal

abbrev pub invariant-loop-rest : goal.invariant-loop-rest
invariant-loop-rest g l = Goes (at (g.K.Sink.told l.fn.out) (g.K.Sink.faults l.fn.out) l.fn.pen) (at (g.K.Sink.told l.out) (g.K.Sink.faults l.out) l.pen)
    (flat_map (point l.sight l.f l.v) l.fn.effects) (flat_map (point l.sight l.f l.v) l.rest)

abbrev pub decreases-loop-rest : goal.decreases-loop-rest
decreases-loop-rest g l = length l.rest
