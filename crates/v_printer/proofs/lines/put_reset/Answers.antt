use Rattle.v_printer.specs.Module.{node_name}
use Rattle.v_printer.specs.Layout.{test_text}
use Rattle.rb_edge.proofs.Flowing.{and_then, stopped}
use Rattle.v_printer.proofs.lines.put_reset.Goals as goal

pub returns-in_err-put_event : goal.returns-in_err-put_event
returns-in_err-put_event g c = stopped (test_text c.args.low (node_name c.args.net.now.nodes c.args.pin.0)) c.from_residual.result c.from_residual.ensures.0 c.in_err-put_event.ensures

pub returns : goal.returns
returns g c = and_then c.in_ok-put_event.ensures c.put_test.ensures
