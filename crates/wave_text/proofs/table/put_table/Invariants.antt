use Rattle.std.proofs.Common.{Ok, take}
use Rattle.rb_edge.specs.declared.sink.Failed.{Failed}
use Rattle.rb_edge.specs.Flows.{Flows}
use Rattle.report_text.specs.Printed.{printed_run}
use Rattle.wave_text.proofs.table.put_table.Given as goal

abbrev pub invariant-loop-row : goal.invariant-loop-row
invariant-loop-row g l =
    Flows {U = Unit {0}} {E = Failed} (g.K.Sink.told l.fn.out) (g.K.Sink.told l.out) (g.K.Sink.faults l.fn.out) (g.K.Sink.faults l.out) l.fn.page l.page (Ok tt)
    (printed_run l.waves.pins (take l.row l.waves.rows))
