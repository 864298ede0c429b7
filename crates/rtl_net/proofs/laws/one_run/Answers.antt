use Rattle.rtl_net.proofs.OneRun as proofs
use Rattle.rtl_net.proofs.laws.one_run.Goals as goal

pub returns : goal.returns
returns c = proofs.one_run
