use Rattle.vcd_syntax.proofs.Answered.{answered}
use Rattle.vcd_syntax.proofs.dump_laws.table_or_problem.Goals as goal

pub returns : goal.returns
returns c = answered
