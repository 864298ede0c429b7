use Rattle.rb_model.specs.Protocol.{IDLE, idle}
use Rattle.rb_model.proofs.Runs.{run_from}
use Rattle.machine_run.proofs.Lengths.{as_many}
use Rattle.machine_run.proofs.Readies.{ready_from}
use Rattle.machine_run.proofs.machine_laws.protocol_runs.Goals as goal

pub returns-clause-runs : goal.returns-clause-runs
returns-clause-runs c b sound m vectors keeps =
    let run = run_from b sound m vectors in
    (run.0, run.1, as_many b m vectors run.0 run.1)

pub returns-clause-ready : goal.returns-clause-ready
returns-clause-ready c b sound m vectors outputs fits keeps run = ready_from b sound IDLE idle m vectors outputs fits keeps (λ t. tt) run
