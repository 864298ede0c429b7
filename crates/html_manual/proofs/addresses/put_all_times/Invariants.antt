use Rattle.std.proofs.Common.{flat_map, take}
use Rattle.html_text.specs.Writing.{Writes, at}
use Rattle.manual_sections.specs.Sections.{times}
use Rattle.html_manual.proofs.addresses.put_all_times.Given as goal

abbrev pub invariant-loop-count : goal.invariant-loop-count
invariant-loop-count g l = Writes (at (g.K.Sink.told l.fn.out) (g.K.Sink.faults l.fn.out) l.fn.pen) (at (g.K.Sink.told l.out) (g.K.Sink.faults l.out) l.pen) (flat_map times (take l.count-index l.counts))
