use Rattle.machine_run.proofs.Resting.{value_rests, masked_rests, mark_rests}
use Rattle.machine_run.proofs.machine_laws.quiet_fields_stay.Goals as goal

pub returns-clause-value : goal.returns-clause-value
returns-clause-value c = value_rests

pub returns-clause-masked : goal.returns-clause-masked
returns-clause-masked c = masked_rests

pub returns-clause-mark : goal.returns-clause-mark
returns-clause-mark c = mark_rests
