use Rattle.std.proofs.Common.{flat_map, take}
use Rattle.html_text.specs.Writing.{Writes, at}
use Rattle.html_manual.specs.Groups.{group_row}
use Rattle.html_manual.proofs.groups.put_rows.Given as goal

abbrev pub invariant-loop-group : goal.invariant-loop-group
invariant-loop-group g l = Writes (at (g.K.Sink.told l.fn.out) (g.K.Sink.faults l.fn.out) l.fn.pen) (at (g.K.Sink.told l.out) (g.K.Sink.faults l.out) l.pen) (flat_map (group_row l.sight) (take l.group-index l.groups))
