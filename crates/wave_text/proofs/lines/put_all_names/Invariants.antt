use Rattle.std.proofs.Common.{ℕ, List, Ok, map}
use Rattle.rb_edge.specs.declared.sink.Failed.{Failed}
use Rattle.rb_edge.specs.Flows.{Flows}
use Rattle.wave_text.proofs.Commas.{IsFront}
use Rattle.wave_text.proofs.lines.put_all_names.Given as goal

abbrev pub invariant-loop-at : goal.invariant-loop-at
invariant-loop-at g l = (text : List ℕ) × IsFront (map (λ p. p.name) l.pins) l.at text
    × Flows {U = Unit {0}} {E = Failed} (g.K.Sink.told l.fn.out) (g.K.Sink.told l.out) (g.K.Sink.faults l.fn.out) (g.K.Sink.faults l.out) l.fn.page l.page (Ok tt) text
