use Rattle.html_text.proofs.Wrote.{wrote}
use Rattle.manual_sections.proofs.rows.put_meaning.Goals as goal

pub returns : goal.returns
returns g c = wrote (wrote (wrote (wrote (wrote c.put.ensures c.put_name_at.ensures) c.put_desc_at.ensures) c.put_values.ensures) c.put_points.ensures) c.put-2.ensures
