use Rattle.html_text.proofs.Wrote.{wrote}
use Rattle.manual_sections.proofs.rows.put_named_cell.Goals as goal

pub returns : goal.returns
returns g c = wrote (wrote (wrote (wrote c.put_three.ensures c.put.ensures) c.put-2.ensures) c.put-3.ensures) c.put-4.ensures
