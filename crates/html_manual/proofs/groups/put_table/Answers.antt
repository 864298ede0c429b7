use Rattle.html_text.proofs.Wrote.{wrote}
use Rattle.html_manual.proofs.groups.put_table.Goals as goal

pub returns : goal.returns
returns g c = wrote (wrote c.put_groups_head.ensures c.put_rows.ensures) c.put.ensures
