use Rattle.std.proofs.Common.{codes, ◌++◌}
use Rattle.std.specs.Fmt.{decimal}
use Rattle.rb_edge.proofs.Flowing.{and_then, stopped}
use Rattle.v_printer.proofs.expr.put_bit.Goals as goal

pub returns-in_err-put : goal.returns-in_err-put
returns-in_err-put g c = stopped (decimal c.args.bit ++ (codes "]")) c.from_residual.result c.from_residual.ensures.0 c.in_err-put.ensures

pub returns-in_err-put_decimal : goal.returns-in_err-put_decimal
returns-in_err-put_decimal g c = and_then c.in_ok-put.ensures (stopped (codes "]") c.from_residual-in_err-put_decimal.result c.from_residual-in_err-put_decimal.ensures.0 c.in_err-put_decimal.ensures)

pub returns : goal.returns
returns g c = and_then c.in_ok-put.ensures (and_then c.in_ok-put_decimal.ensures c.put-2.ensures)
