use Rattle.v_printer.specs.Module.{node_name}
use Rattle.v_printer.specs.Layout.{next_text}
use Rattle.rb_edge.proofs.Flowing.{and_then, stopped}
use Rattle.v_printer.proofs.lines.put_branches.Goals as goal

pub returns-in_err-put_reset_value : goal.returns-in_err-put_reset_value
returns-in_err-put_reset_value g c = stopped (next_text c.args.name.now (node_name c.args.net.now.nodes c.args.next.0)) c.from_residual.result c.from_residual.ensures.0 c.in_err-put_reset_value.ensures

pub returns : goal.returns
returns g c = and_then c.in_ok-put_reset_value.ensures c.put_next.ensures
