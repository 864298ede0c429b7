use Rattle.rtl_net.proofs.HasRun as proofs
use Rattle.rtl_net.proofs.laws.has_run.Goals as goal

pub returns : goal.returns
returns c = proofs.has_run
