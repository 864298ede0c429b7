use Rattle.html_text.proofs.Wrote.{wrote}
use Rattle.manual_sections.proofs.rows.put_out_and.Goals as goal

pub returns : goal.returns
returns g c = wrote c.put_out.ensures c.put_further.ensures
