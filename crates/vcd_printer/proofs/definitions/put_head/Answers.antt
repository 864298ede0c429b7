use Rattle.std.specs.List.{enumerate_from}
use Rattle.std.proofs.Common.{◌++◌, map}
use Rattle.rb_edge.proofs.Flowing.{and_then, stopped, of_bytes}
use Rattle.vcd_syntax.specs.Dump.{lines_text, var_line}
use Rattle.vcd_printer.proofs.Lines.{head_is, opened, closing}
use Rattle.vcd_printer.proofs.definitions.put_head.Goals as goal

pub returns-in_err-put_all : goal.returns-in_err-put_all
returns-in_err-put_all g c = of_bytes _ _ (head_is c.args.name.now c.args.pins.now)
    (stopped {xs = opened c.args.name.now} (lines_text (map var_line (enumerate_from 0 c.args.pins.now)) ++ closing) c.from_residual.result c.from_residual.ensures.0 c.in_err-put_all.ensures)

pub returns-in_err-put_pins : goal.returns-in_err-put_pins
returns-in_err-put_pins g c = of_bytes _ _ (head_is c.args.name.now c.args.pins.now)
    (and_then {xs = opened c.args.name.now} c.in_ok-put_all.ensures (stopped closing c.from_residual-in_err-put_pins.result c.from_residual-in_err-put_pins.ensures.0 c.in_err-put_pins.ensures))

pub returns : goal.returns
returns g c = of_bytes _ _ (head_is c.args.name.now c.args.pins.now) (and_then {xs = opened c.args.name.now} c.in_ok-put_all.ensures (and_then c.in_ok-put_pins.ensures c.put.ensures.flows))
