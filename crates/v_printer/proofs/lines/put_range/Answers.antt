use Rattle.std.specs.Fmt.{decimal}
use Rattle.std.proofs.Common.{◌-◌, ◌++◌, codes}
use Rattle.v_printer.proofs.Choices.{range_is}
use Rattle.rb_edge.proofs.Flowing.{and_then, stopped, of_bytes}
use Rattle.v_printer.proofs.lines.put_range.Goals as goal

pub returns-in_err-put : goal.returns-in_err-put
returns-in_err-put g c = of_bytes _ _ (range_is c.args.width c.if-width-eq1.false) (stopped (decimal (c.args.width - 1) ++ codes ":0] ") c.from_residual.result c.from_residual.ensures.0 c.in_err-put.ensures)

pub returns-in_err-put_decimal : goal.returns-in_err-put_decimal
returns-in_err-put_decimal g c = of_bytes _ _ (range_is c.args.width c.if-width-eq1.false)
    (and_then c.in_ok-put.ensures (stopped (codes ":0] ") c.from_residual-in_err-put_decimal.result c.from_residual-in_err-put_decimal.ensures.0 c.in_err-put_decimal.ensures))

pub returns : goal.returns
returns g c = of_bytes _ _ (range_is c.args.width c.if-width-eq1.false) (and_then c.in_ok-put.ensures (and_then c.in_ok-put_decimal.ensures c.put-2.ensures))
