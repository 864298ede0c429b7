use Rattle.std.proofs.Common.{codes, ◌++◌}
use Rattle.v_design.specs.Header.{range_text}
use Rattle.v_printer.specs.Module.{wire_name}
use Rattle.rb_edge.proofs.Flowing.{and_then, stopped}
use Rattle.v_printer.proofs.lines.put_wire.Goals as goal

pub returns-in_err-put : goal.returns-in_err-put
returns-in_err-put g c = stopped (range_text c.args.width ++ (wire_name c.args.number ++ (codes ";\n"))) c.from_residual.result c.from_residual.ensures.0 c.in_err-put.ensures

pub returns-in_err-put_range : goal.returns-in_err-put_range
returns-in_err-put_range g c = and_then c.in_ok-put.ensures (stopped (wire_name c.args.number ++ (codes ";\n")) c.from_residual-in_err-put_range.result c.from_residual-in_err-put_range.ensures.0 c.in_err-put_range.ensures)

pub returns-in_err-put_wire_name : goal.returns-in_err-put_wire_name
returns-in_err-put_wire_name g c = and_then c.in_ok-put.ensures (and_then c.in_ok-put_range.ensures (stopped (codes ";\n") c.from_residual-in_err-put_wire_name.result c.from_residual-in_err-put_wire_name.ensures.0 c.in_err-put_wire_name.ensures))

pub returns : goal.returns
returns g c = and_then c.in_ok-put.ensures (and_then c.in_ok-put_range.ensures (and_then c.in_ok-put_wire_name.ensures c.put-2.ensures))
