use Rattle.vcd_syntax.proofs.OneAnswer.{no_both}
use Rattle.vcd_syntax.proofs.dump_laws.no_both.Goals as goal

pub returns : goal.returns
returns c = no_both
