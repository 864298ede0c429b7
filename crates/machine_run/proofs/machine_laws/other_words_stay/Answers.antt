use Rattle.machine_run.proofs.Others.{value_stays, mark_stays}
use Rattle.machine_run.proofs.Resting.{hardware_moves}
use Rattle.machine_run.proofs.machine_laws.other_words_stay.Goals as goal

pub returns-clause-value : goal.returns-clause-value
returns-clause-value c = value_stays

pub returns-clause-mark : goal.returns-clause-mark
returns-clause-mark c = mark_stays

pub returns-clause-edge : goal.returns-clause-edge
returns-clause-edge c = hardware_moves
