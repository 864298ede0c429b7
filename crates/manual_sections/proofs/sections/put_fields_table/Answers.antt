use Rattle.html_text.proofs.Wrote.{wrote}
use Rattle.manual_sections.proofs.sections.put_fields_table.Goals as goal

pub returns : goal.returns
returns g c = wrote (wrote c.put_fields_head.ensures c.put_unit_rows.ensures) c.put.ensures
