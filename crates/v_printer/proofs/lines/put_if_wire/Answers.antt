use Rattle.v_printer.proofs.Choices.{wire_line}
use Rattle.rb_edge.proofs.Flowing.{of_bytes}
use Rattle.v_printer.proofs.lines.put_if_wire.Goals as goal

pub returns-in-Wire : goal.returns-in-Wire
returns-in-Wire g c = of_bytes _ _ (wire_line c.args.net.now c.requires.made c.args.at c.width.result c.args.node.now c.in-Wire.field-0 c.requires.node c.in-Wire.is c.width.ensures.operand) c.put_wire.ensures
