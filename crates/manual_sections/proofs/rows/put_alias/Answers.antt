use Rattle.html_text.proofs.Wrote.{wrote}
use Rattle.manual_sections.proofs.rows.put_alias.Goals as goal

pub returns : goal.returns
returns g c = wrote c.put.ensures c.put_field_at.ensures
