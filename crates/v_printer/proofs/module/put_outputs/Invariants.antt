use Rattle.std.proofs.Common.{take, Ok}
use Rattle.rb_edge.specs.declared.sink.Failed.{Failed}
use Rattle.v_printer.specs.Module.{numbered}
use Rattle.v_printer.specs.Layout.{shown_text}
use Rattle.rb_edge.specs.Flows.{Flows}
use Rattle.v_printer.proofs.module.put_outputs.Given as goal

abbrev pub invariant-loop-at : goal.invariant-loop-at
invariant-loop-at g l =
    Flows {U = Unit {0}} {E = Failed} (g.K.Sink.told l.fn.out) (g.K.Sink.told l.out) (g.K.Sink.faults l.fn.out) (g.K.Sink.faults l.out) l.fn.page l.page (Ok tt)
    (numbered (shown_text l.net) 0 (take l.at l.net.seats))
