use Rattle.v_reader.proofs.Verdicts.{no_module}
use Rattle.v_reader.proofs.laws.failure_is_no_module.Goals as goal

pub returns : goal.returns
returns c = no_module
