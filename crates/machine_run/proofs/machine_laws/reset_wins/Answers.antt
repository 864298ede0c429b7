use Rattle.machine_run.proofs.Resets.{reset_value, reset_input, reset_mark}
use Rattle.machine_run.proofs.machine_laws.reset_wins.Goals as goal

pub returns-clause-value : goal.returns-clause-value
returns-clause-value c = reset_value

pub returns-clause-input : goal.returns-clause-input
returns-clause-input c = reset_input

pub returns-clause-mark : goal.returns-clause-mark
returns-clause-mark c = reset_mark
