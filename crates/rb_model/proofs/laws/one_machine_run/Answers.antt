use Rattle.rb_model.proofs.Runs.{one_run}
use Rattle.rb_model.proofs.laws.one_machine_run.Goals as goal

pub returns : goal.returns
returns c = one_run
