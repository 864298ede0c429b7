use Rattle.std.proofs.Common.{codes, ◌++◌}
use Rattle.rb_edge.proofs.Flowing.{and_then, stopped, of_bytes}
use Rattle.vcd_syntax.specs.Dump.{all_lines, lines_text}
use Rattle.vcd_printer.proofs.Lines.{first_is}
use Rattle.vcd_printer.proofs.changes.put_first.Goals as goal

pub returns-in_err-put : goal.returns-in_err-put
returns-in_err-put g c = of_bytes _ _ (first_is c.args.pins.now c.args.now.now) (stopped (lines_text (all_lines 0 c.args.pins.now c.args.now.now) ++ codes "$end\n") c.from_residual.result c.from_residual.ensures.0 c.in_err-put.ensures.flows)

pub returns-in_err-put_all_values : goal.returns-in_err-put_all_values
returns-in_err-put_all_values g c = of_bytes _ _ (first_is c.args.pins.now c.args.now.now)
    (and_then c.in_ok-put.ensures.flows (stopped (codes "$end\n") c.from_residual-in_err-put_all_values.result c.from_residual-in_err-put_all_values.ensures.0 c.in_err-put_all_values.ensures))

pub returns : goal.returns
returns g c = of_bytes _ _ (first_is c.args.pins.now c.args.now.now) (and_then c.in_ok-put.ensures.flows (and_then c.in_ok-put_all_values.ensures c.put-2.ensures.flows))
