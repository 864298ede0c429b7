use Rattle.vcd_syntax.proofs.ReadBack.{read_back}
use Rattle.vcd_syntax.proofs.dump_laws.dumps_are_read_back.Goals as goal

pub returns : goal.returns
returns c name ps rows d = read_back name ps rows d
