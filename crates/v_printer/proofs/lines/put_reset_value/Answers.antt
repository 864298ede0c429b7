use Rattle.std.proofs.Common.{codes, ◌++◌}
use Rattle.v_printer.specs.Layout.{constant_text}
use Rattle.rb_edge.proofs.Flowing.{and_then, stopped}
use Rattle.v_printer.proofs.lines.put_reset_value.Goals as goal

pub returns-in_err-put : goal.returns-in_err-put
returns-in_err-put g c = stopped (codes " <= " ++ (constant_text c.args.width c.args.value ++ (codes ";\n    else "))) c.from_residual.result c.from_residual.ensures.0 c.in_err-put.ensures

pub returns-in_err-put-2 : goal.returns-in_err-put-2
returns-in_err-put-2 g c = and_then c.in_ok-put.ensures (stopped (constant_text c.args.width c.args.value ++ (codes ";\n    else ")) c.from_residual-in_err-put-2.result c.from_residual-in_err-put-2.ensures.0 c.in_err-put-2.ensures)

pub returns-in_err-put_constant : goal.returns-in_err-put_constant
returns-in_err-put_constant g c = and_then c.in_ok-put.ensures (and_then c.in_ok-put-2.ensures (stopped (codes ";\n    else ") c.from_residual-in_err-put_constant.result c.from_residual-in_err-put_constant.ensures.0 c.in_err-put_constant.ensures))

pub returns : goal.returns
returns g c = and_then c.in_ok-put.ensures (and_then c.in_ok-put-2.ensures (and_then c.in_ok-put_constant.ensures c.put-3.ensures))
