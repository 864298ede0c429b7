use Rattle.html_manual.proofs.Filing.{no_tables}
use Rattle.html_manual.proofs.tables.no_tables.Goals as goal

pub returns : goal.returns
returns c = no_tables c.args.count _ _ _ c.in_ok-none_filed.ensures c.in_ok-none_filed-2.ensures c.in_ok-none_filed-3.ensures
