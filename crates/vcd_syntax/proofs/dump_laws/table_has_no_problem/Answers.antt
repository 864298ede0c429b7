use Rattle.vcd_syntax.proofs.Answered.{no_error}
use Rattle.vcd_syntax.proofs.dump_laws.table_has_no_problem.Goals as goal

pub returns : goal.returns
returns c = no_error
