use Rattle.std.proofs.Common.{flat_map, take, Ok}
use Rattle.rb_edge.specs.declared.sink.Failed.{Failed}
use Rattle.rb_edge.specs.Flows.{Flows}
use Rattle.vcd_printer.proofs.write.put_all.Given as goal

abbrev pub invariant-loop-piece : goal.invariant-loop-piece
invariant-loop-piece g l =
    Flows {U = Unit {0}} {E = Failed} (g.K.Sink.told l.fn.out) (g.K.Sink.told l.out) (g.K.Sink.faults l.fn.out) (g.K.Sink.faults l.out) l.fn.page l.page (Ok tt)
    (flat_map (λ p. p.now) (take l.piece-index l.pieces))
