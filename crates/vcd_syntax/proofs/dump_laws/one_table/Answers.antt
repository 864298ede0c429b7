use Rattle.vcd_syntax.proofs.OneAnswer.{one_table}
use Rattle.vcd_syntax.proofs.dump_laws.one_table.Goals as goal

pub returns : goal.returns
returns c = one_table
