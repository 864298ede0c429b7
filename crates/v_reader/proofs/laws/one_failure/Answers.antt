use Rattle.v_reader.proofs.Verdicts.{one_failure}
use Rattle.v_reader.proofs.laws.one_failure.Goals as goal

pub returns : goal.returns
returns c = one_failure
