use Rattle.gen_core.proofs.Running.{runs}
use Rattle.gen_core.proofs.laws.core_runs.Goals as goal

pub returns : goal.returns
returns c = λ b a net answer sound core stand m contents vs. runs b a net answer sound core stand m contents vs
