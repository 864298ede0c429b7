use Rattle.std.specs.List.{enumerate_from, flat_map}
use Rattle.std.proofs.Common.{take, Ok}
use Rattle.rb_edge.specs.declared.sink.Failed.{Failed}
use Rattle.rb_edge.specs.Flows.{Flows}
use Rattle.vcd_syntax.specs.Dump.{line_text, var_line}
use Rattle.vcd_printer.proofs.definitions.put_pins.Given as goal

abbrev pub invariant-loop-at : goal.invariant-loop-at
invariant-loop-at g l =
    Flows {U = Unit {0}} {E = Failed} (g.K.Sink.told l.fn.out) (g.K.Sink.told l.out) (g.K.Sink.faults l.fn.out) (g.K.Sink.faults l.out) l.fn.page l.page (Ok tt)
    (flat_map (λ p. line_text (var_line p)) (take l.at (enumerate_from 0 l.pins)))
