use Rattle.std.proofs.Common.{ℕ, List, Ok}
use Rattle.rb_edge.specs.declared.sink.Failed.{Failed}
use Rattle.rb_edge.specs.Flows.{Flows}
use Rattle.v_design.specs.Seen.{module_seen}
use Rattle.wave_text.proofs.Waves.{Writes}
use Rattle.wave_text.proofs.writing.put_run.Given as goal

abbrev pub invariant-loop-at : goal.invariant-loop-at
invariant-loop-at g l = (text : List ℕ) × Writes (module_seen l.design) l.table l.at l.sim l.before text
    × Flows {U = Unit {0}} {E = Failed} (g.K.Sink.told l.fn.out) (g.K.Sink.told l.out) (g.K.Sink.faults l.fn.out) (g.K.Sink.faults l.out) l.fn.page l.page (Ok tt) text
