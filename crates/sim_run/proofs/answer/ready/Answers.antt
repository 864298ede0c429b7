use Rattle.sim_run.proofs.Tables.{is_ready}
use Rattle.sim_run.proofs.answer.ready.Goals as goal

pub returns-in-Ok-table-clause-ok : goal.returns-in-Ok-table-clause-ok
returns-in-Ok-table-clause-ok c = is_ready c.args.verilog.now c.in-Ok.design c.args.stimulus.now c.in-Ok-table.table c.in-Ok.ensures.ok c.in-Ok-table.ensures.ok
