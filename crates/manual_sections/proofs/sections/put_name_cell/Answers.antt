use Rattle.html_text.proofs.Wrote.{wrote}
use Rattle.manual_sections.proofs.sections.put_name_cell.Goals as goal

pub returns : goal.returns
returns g c = wrote (wrote (wrote (wrote c.put.ensures c.put_number.ensures) c.put-2.ensures) c.put-3.ensures) c.put-4.ensures
