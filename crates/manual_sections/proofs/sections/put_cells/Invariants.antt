use Rattle.std.proofs.Common.{◌-◌, ◌≤◌, flat_map}
use Rattle.html_text.specs.Writing.{at}
use Rattle.html_text.proofs.Looping.{Goes}
use Rattle.manual_sections.specs.Sections.{cell, down}
use Rattle.manual_sections.proofs.sections.put_cells.Given as goal

abbrev pub invariant-loop-left : goal.invariant-loop-left
invariant-loop-left g l = record {
  goes : Goes (at (g.K.Sink.told l.fn.out) (g.K.Sink.faults l.fn.out) l.fn.pen) (at (g.K.Sink.told l.out) (g.K.Sink.faults l.out) l.pen)
      (flat_map (cell l.block l.write l.base l.end l.parts) (down l.base (l.end - l.base))) (flat_map (cell l.block l.write l.base l.end l.parts) (down l.base l.left));
  within : l.left ≤ l.end - l.base;
}

abbrev pub decreases-loop-left : goal.decreases-loop-left
decreases-loop-left g l = l.left
