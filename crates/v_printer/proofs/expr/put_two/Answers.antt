use Rattle.std.proofs.Common.{◌++◌}
use Rattle.v_printer.specs.Module.{node_name}
use Rattle.rb_edge.proofs.Flowing.{and_then, stopped}
use Rattle.v_printer.proofs.expr.put_two.Goals as goal

pub returns-in_err-put_name : goal.returns-in_err-put_name
returns-in_err-put_name g c = stopped (c.args.operator.now ++ (node_name c.args.net.now.nodes c.args.b.0)) c.from_residual.result c.from_residual.ensures.0 c.in_err-put_name.ensures

pub returns-in_err-put : goal.returns-in_err-put
returns-in_err-put g c = and_then c.in_ok-put_name.ensures (stopped (node_name c.args.net.now.nodes c.args.b.0) c.from_residual-in_err-put.result c.from_residual-in_err-put.ensures.0 c.in_err-put.ensures)

pub returns : goal.returns
returns g c = and_then c.in_ok-put_name.ensures (and_then c.in_ok-put.ensures c.put_name-2.ensures)
