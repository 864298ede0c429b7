use Rattle.machine_run.proofs.Agreeing.{agree}
use Rattle.machine_run.proofs.laws.runs_agree.Goals as goal

pub returns : goal.returns
returns c = agree
