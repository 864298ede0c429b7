use Rattle.html_text.proofs.Wrote.{wrote}
use Rattle.manual_sections.proofs.rows.put_fielded.Goals as goal

pub returns : goal.returns
returns g c = wrote (wrote (wrote (wrote (wrote (wrote c.put.ensures c.put_span.ensures) c.put_field_cell.ensures) c.put_access.ensures) c.put_reset_cell.ensures) c.put_meaning_cell.ensures) c.put-2.ensures
