use Rattle.std.proofs.Common.{codes, ◌++◌}
use Rattle.v_printer.specs.Layout.{term_text}
use Rattle.v_printer.specs.Module.{term_of, wire_name}
use Rattle.rb_edge.proofs.Flowing.{and_then, stopped}
use Rattle.v_printer.proofs.lines.put_assignment.Goals as goal

pub returns-in_err-put : goal.returns-in_err-put
returns-in_err-put g c = stopped (wire_name c.args.number ++ (codes " = " ++ (term_text (term_of c.args.net.now c.args.expr) ++ (codes ";\n")))) c.from_residual.result c.from_residual.ensures.0 c.in_err-put.ensures

pub returns-in_err-put_wire_name : goal.returns-in_err-put_wire_name
returns-in_err-put_wire_name g c = and_then c.in_ok-put.ensures (stopped (codes " = " ++ (term_text (term_of c.args.net.now c.args.expr) ++ (codes ";\n"))) c.from_residual-in_err-put_wire_name.result c.from_residual-in_err-put_wire_name.ensures.0 c.in_err-put_wire_name.ensures)

pub returns-in_err-put-2 : goal.returns-in_err-put-2
returns-in_err-put-2 g c = and_then c.in_ok-put.ensures (and_then c.in_ok-put_wire_name.ensures (stopped (term_text (term_of c.args.net.now c.args.expr) ++ (codes ";\n")) c.from_residual-in_err-put-2.result c.from_residual-in_err-put-2.ensures.0 c.in_err-put-2.ensures))

pub returns-in_err-put_expr : goal.returns-in_err-put_expr
returns-in_err-put_expr g c = and_then c.in_ok-put.ensures (and_then c.in_ok-put_wire_name.ensures (and_then c.in_ok-put-2.ensures (stopped (codes ";\n") c.from_residual-in_err-put_expr.result c.from_residual-in_err-put_expr.ensures.0 c.in_err-put_expr.ensures)))

pub returns : goal.returns
returns g c = and_then c.in_ok-put.ensures (and_then c.in_ok-put_wire_name.ensures (and_then c.in_ok-put-2.ensures (and_then c.in_ok-put_expr.ensures c.put-3.ensures)))
