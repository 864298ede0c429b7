use Rattle.std.proofs.Common.{codes, ◌++◌}
use Rattle.v_design.specs.Header.{range_text}
use Rattle.rb_edge.proofs.Flowing.{and_then, stopped}
use Rattle.v_printer.proofs.lines.put_register.Goals as goal

pub returns-in_err-put : goal.returns-in_err-put
returns-in_err-put g c = stopped (range_text c.args.width ++ (c.args.name.now ++ (codes ";\n"))) c.from_residual.result c.from_residual.ensures.0 c.in_err-put.ensures

pub returns-in_err-put_range : goal.returns-in_err-put_range
returns-in_err-put_range g c = and_then c.in_ok-put.ensures (stopped (c.args.name.now ++ (codes ";\n")) c.from_residual-in_err-put_range.result c.from_residual-in_err-put_range.ensures.0 c.in_err-put_range.ensures)

pub returns-in_err-put-2 : goal.returns-in_err-put-2
returns-in_err-put-2 g c = and_then c.in_ok-put.ensures (and_then c.in_ok-put_range.ensures (stopped (codes ";\n") c.from_residual-in_err-put-2.result c.from_residual-in_err-put-2.ensures.0 c.in_err-put-2.ensures))

pub returns : goal.returns
returns g c = and_then c.in_ok-put.ensures (and_then c.in_ok-put_range.ensures (and_then c.in_ok-put-2.ensures c.put-3.ensures))
