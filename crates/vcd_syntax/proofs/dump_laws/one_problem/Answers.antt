use Rattle.vcd_syntax.proofs.Answered.{one_error}
use Rattle.vcd_syntax.proofs.dump_laws.one_problem.Goals as goal

pub returns : goal.returns
returns c = one_error
