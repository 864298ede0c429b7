use Rattle.std.proofs.Common.{codes, ◌++◌}
use Rattle.v_printer.specs.Layout.{constant_text}
use Rattle.rb_edge.proofs.Flowing.{and_then, stopped}
use Rattle.v_printer.proofs.expr.put_only_bit.Goals as goal

pub returns-in_err-put_name : goal.returns-in_err-put_name
returns-in_err-put_name g c = stopped (codes " & " ++ constant_text 1 1) c.from_residual.result c.from_residual.ensures.0 c.in_err-put_name.ensures

pub returns-in_err-put : goal.returns-in_err-put
returns-in_err-put g c = and_then c.in_ok-put_name.ensures (stopped (constant_text 1 1) c.from_residual-in_err-put.result c.from_residual-in_err-put.ensures.0 c.in_err-put.ensures)

pub returns : goal.returns
returns g c = and_then c.in_ok-put_name.ensures (and_then c.in_ok-put.ensures c.put_constant.ensures)
