use Rattle.std.proofs.Common.{map}
use Rattle.stim_csv.specs.Buses.{bus_first}
use Rattle.stim_csv.specs.Watch.{bus_seen, phase_seen}
use Rattle.stim_csv.proofs.Keeping.{Watched}
use Rattle.stim_csv.proofs.stimulus.Stimulus.protocol.Given as goal

abbrev pub invariant-loop-row : goal.invariant-loop-row
invariant-loop-row l = Watched l.waits (map bus_first l.self) l.row (phase_seen l.last) (bus_seen l.before)
