use Rattle.std.proofs.Common.{codes}
use Rattle.rb_edge.proofs.Flowing.{and_then, stopped}
use Rattle.wave_text.proofs.lines.put_row.Goals as goal

pub returns-in_err-put_all_values : goal.returns-in_err-put_all_values
returns-in_err-put_all_values g c = stopped (codes "\n") c.from_residual.result c.from_residual.ensures.0 c.in_err-put_all_values.ensures

pub returns : goal.returns
returns g c = and_then c.in_ok-put_all_values.ensures c.put.ensures.flows
