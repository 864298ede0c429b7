use Rattle.std.proofs.Common.{codes, if◌then◌else◌}
use Rattle.rb_edge.proofs.Flowing.{and_then, stopped, of_bytes}
use Rattle.v_printer.proofs.module.put_port_line.Goals as goal

pub returns-in_err-put_seat : goal.returns-in_err-put_seat
returns-in_err-put_seat g c = stopped ((if c.args.last then codes "\n" else codes ",\n")) c.from_residual.result c.from_residual.ensures.0 c.in_err-put_seat.ensures

pub returns : goal.returns
returns g c = and_then c.in_ok-put_seat.ensures (of_bytes c.line_end.result.now ((if c.args.last then codes "\n" else codes ",\n")) c.line_end.ensures c.put.ensures)
