use Rattle.std.proofs.Common.{flat_map, take}
use Rattle.html_text.specs.Writing.{Writes, at}
use Rattle.html_manual.specs.Interrupts.{intr_field}
use Rattle.html_manual.proofs.interrupts.put_intr_fields.Given as goal

abbrev pub invariant-loop-number : goal.invariant-loop-number
invariant-loop-number g l = Writes (at (g.K.Sink.told l.fn.out) (g.K.Sink.faults l.fn.out) l.fn.pen) (at (g.K.Sink.told l.out) (g.K.Sink.faults l.out) l.pen) (flat_map (intr_field l.sight) (take l.number-index l.numbers))
