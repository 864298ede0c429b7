use Rattle.axi_model.proofs.Running.{one_run}
use Rattle.axi_model.proofs.laws.one_axi_run.Goals as goal

pub returns : goal.returns
returns c b sound k vectors first second h g = one_run b sound k vectors first second h g
