use Rattle.axi_model.proofs.Running.{run_from}
use Rattle.axi_model.proofs.laws.axi_runs.Goals as goal

pub returns : goal.returns
returns c b sound k vectors = run_from b sound k vectors
