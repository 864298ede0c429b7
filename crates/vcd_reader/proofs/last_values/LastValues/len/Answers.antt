use Rattle.std.proofs.Common.{length, ap, arith}
use Rattle.vcd_reader.proofs.Values.{values_length}
use Rattle.vcd_reader.proofs.last_values.LastValues.len.Goals as goal

pub returns : goal.returns
returns c = omega (arith, c.len.ensures, c.self.inside.cells.ok.0, ap length c.self.view_is, values_length c.self.inside.cells.items c.self.inside.wide.items)
