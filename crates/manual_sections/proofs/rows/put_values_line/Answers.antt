use Rattle.html_text.proofs.Wrote.{wrote}
use Rattle.manual_sections.proofs.rows.put_values_line.Goals as goal

pub returns : goal.returns
returns g c = wrote (wrote c.put.ensures c.put_enumeration_item.ensures) c.put-2.ensures
