use Rattle.rdl_scopes.proofs.Entered.{table_none, table_step}
use Rattle.rdl_scopes.proofs.entries.enum_table.Goals as goal

pub loop-entry-init : goal.loop-entry-init
loop-entry-init c = table_none c.args.name _ c.new-table.ensures

pub loop-entry-preserved : goal.loop-entry-preserved
loop-entry-preserved c = table_step c.args.name c.args.entries.now c.loop-entry.entry-index _ c.loop-entry.table c.add.new.self c.loop-entry-test.true c.loop-entry.invariant c.in_ok-add.ensures.name c.in_ok-add.ensures.place c.in_ok-add.ensures.added
