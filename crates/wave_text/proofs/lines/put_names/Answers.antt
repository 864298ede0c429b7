use Rattle.std.proofs.Common.{codes}
use Rattle.rb_edge.proofs.Flowing.{and_then, stopped}
use Rattle.wave_text.proofs.lines.put_names.Goals as goal

pub returns-in_err-put_all_names : goal.returns-in_err-put_all_names
returns-in_err-put_all_names g c = stopped (codes "\n") c.from_residual.result c.from_residual.ensures.0 c.in_err-put_all_names.ensures

pub returns : goal.returns
returns g c = and_then c.in_ok-put_all_names.ensures c.put.ensures.flows
