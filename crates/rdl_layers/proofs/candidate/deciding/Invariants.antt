use Rattle.rdl_layers.proofs.Least.{Among}
use Rattle.rdl_layers.proofs.candidate.deciding.Given as goal

abbrev pub invariant-loop-at : goal.invariant-loop-at
invariant-loop-at l = Among l.prop l.candidates l.at l.best
