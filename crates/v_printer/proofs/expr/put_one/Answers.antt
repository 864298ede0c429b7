use Rattle.v_printer.specs.Module.{node_name}
use Rattle.rb_edge.proofs.Flowing.{and_then, stopped}
use Rattle.v_printer.proofs.expr.put_one.Goals as goal

pub returns-in_err-put : goal.returns-in_err-put
returns-in_err-put g c = stopped (node_name c.args.net.now.nodes c.args.a.0) c.from_residual.result c.from_residual.ensures.0 c.in_err-put.ensures

pub returns : goal.returns
returns g c = and_then c.in_ok-put.ensures c.put_name.ensures
