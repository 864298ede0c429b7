use Rattle.std.proofs.Common.{codes, ◌++◌}
use Rattle.v_printer.specs.Module.{node_name}
use Rattle.rb_edge.proofs.Flowing.{and_then, stopped}
use Rattle.v_printer.proofs.expr.put_cat.Goals as goal

pub returns-in_err-put : goal.returns-in_err-put
returns-in_err-put g c = stopped (node_name c.args.net.now.nodes c.args.a.0 ++ (codes ", " ++ (node_name c.args.net.now.nodes c.args.b.0 ++ (codes "}")))) c.from_residual.result c.from_residual.ensures.0 c.in_err-put.ensures

pub returns-in_err-put_name : goal.returns-in_err-put_name
returns-in_err-put_name g c = and_then c.in_ok-put.ensures (stopped (codes ", " ++ (node_name c.args.net.now.nodes c.args.b.0 ++ (codes "}"))) c.from_residual-in_err-put_name.result c.from_residual-in_err-put_name.ensures.0 c.in_err-put_name.ensures)

pub returns-in_err-put-2 : goal.returns-in_err-put-2
returns-in_err-put-2 g c = and_then c.in_ok-put.ensures (and_then c.in_ok-put_name.ensures (stopped (node_name c.args.net.now.nodes c.args.b.0 ++ (codes "}")) c.from_residual-in_err-put-2.result c.from_residual-in_err-put-2.ensures.0 c.in_err-put-2.ensures))

pub returns-in_err-put_name-2 : goal.returns-in_err-put_name-2
returns-in_err-put_name-2 g c = and_then c.in_ok-put.ensures (and_then c.in_ok-put_name.ensures (and_then c.in_ok-put-2.ensures (stopped (codes "}") c.from_residual-in_err-put_name-2.result c.from_residual-in_err-put_name-2.ensures.0 c.in_err-put_name-2.ensures)))

pub returns : goal.returns
returns g c = and_then c.in_ok-put.ensures (and_then c.in_ok-put_name.ensures (and_then c.in_ok-put-2.ensures (and_then c.in_ok-put_name-2.ensures c.put-3.ensures)))
