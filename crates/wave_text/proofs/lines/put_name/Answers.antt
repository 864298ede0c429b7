use Rattle.rb_edge.proofs.Flowing.{and_then, stopped, of_bytes}
use Rattle.wave_text.proofs.lines.put_name.Goals as goal

pub returns-in_err-put : goal.returns-in_err-put
returns-in_err-put g c = stopped c.args.name.now c.from_residual.result c.from_residual.ensures.0 (of_bytes _ _ c.comma.ensures c.in_err-put.ensures.flows)

pub returns : goal.returns
returns g c = and_then (of_bytes _ _ c.comma.ensures c.in_ok-put.ensures.flows) c.put-2.ensures.flows
