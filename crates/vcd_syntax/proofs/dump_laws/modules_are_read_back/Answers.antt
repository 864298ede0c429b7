use Rattle.vcd_syntax.proofs.OfModules.{module_read_back}
use Rattle.vcd_syntax.proofs.dump_laws.modules_are_read_back.Goals as goal

pub returns : goal.returns
returns c verilog t ps rows tree formed = module_read_back verilog t tree formed ps rows
