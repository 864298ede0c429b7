use Rattle.vcd_syntax.proofs.OneMarking.{one_marking}
use Rattle.vcd_syntax.proofs.laws.one_marking.Goals as goal

pub returns : goal.returns
returns c = one_marking
