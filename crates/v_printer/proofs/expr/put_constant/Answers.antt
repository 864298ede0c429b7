use Rattle.std.proofs.Common.{codes, ◌++◌, false}
use Rattle.std.specs.Fmt.{digits}
use Rattle.rb_edge.proofs.Flowing.{and_then, stopped}
use Rattle.v_printer.proofs.expr.put_constant.Goals as goal

pub returns-in_err-put_decimal : goal.returns-in_err-put_decimal
returns-in_err-put_decimal g c = stopped (codes "'h" ++ (digits 16 false c.args.value)) c.from_residual.result c.from_residual.ensures.0 c.in_err-put_decimal.ensures

pub returns-in_err-put : goal.returns-in_err-put
returns-in_err-put g c = and_then c.in_ok-put_decimal.ensures (stopped (digits 16 false c.args.value) c.from_residual-in_err-put.result c.from_residual-in_err-put.ensures.0 c.in_err-put.ensures)

pub returns : goal.returns
returns g c = and_then c.in_ok-put_decimal.ensures (and_then c.in_ok-put.ensures c.put_hex.ensures)
