use Rattle.v_design.proofs.HasRun as proofs
use Rattle.v_design.proofs.laws.has_run.Goals as goal

pub returns : goal.returns
returns c = proofs.has_run
