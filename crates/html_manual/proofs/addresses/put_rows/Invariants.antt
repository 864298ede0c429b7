use Rattle.std.proofs.Common.{flat_map, length}
use Rattle.html_text.specs.Writing.{at}
use Rattle.html_text.proofs.Looping.{Goes}
use Rattle.manual_sections.specs.Sections.{address_row}
use Rattle.html_manual.proofs.addresses.put_rows.Given as goal

abbrev pub invariant-loop-rest : goal.invariant-loop-rest
invariant-loop-rest g l = Goes (at (g.K.Sink.told l.fn.out) (g.K.Sink.faults l.fn.out) l.fn.pen) (at (g.K.Sink.told l.out) (g.K.Sink.faults l.out) l.pen)
    (flat_map (address_row l.block l.notes l.encodings l.fields l.marks) l.fn.units) (flat_map (address_row l.block l.notes l.encodings l.fields l.marks) l.rest)

abbrev pub decreases-loop-rest : goal.decreases-loop-rest
decreases-loop-rest g l = length l.rest
