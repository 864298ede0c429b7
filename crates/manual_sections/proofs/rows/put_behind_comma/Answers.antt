use Rattle.html_text.proofs.Wrote.{wrote}
use Rattle.manual_sections.proofs.rows.put_behind_comma.Goals as goal

pub returns : goal.returns
returns g c = wrote c.put.ensures c.put_in.ensures
