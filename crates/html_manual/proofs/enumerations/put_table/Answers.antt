use Rattle.html_text.proofs.Wrote.{wrote}
use Rattle.html_manual.proofs.enumerations.put_table.Goals as goal

pub returns : goal.returns
returns g c = wrote (wrote c.put_values_head.ensures c.put_entries.ensures) c.put.ensures
