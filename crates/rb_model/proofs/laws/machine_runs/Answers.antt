use Rattle.rb_model.proofs.Runs.{run_from}
use Rattle.rb_model.proofs.laws.machine_runs.Goals as goal

pub returns : goal.returns
returns c = run_from
