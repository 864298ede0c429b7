use Rattle.html_text.proofs.Wrote.{wrote}
use Rattle.manual_sections.proofs.sections.put_bare_cell.Goals as goal

pub returns : goal.returns
returns g c = wrote (wrote c.put.ensures c.put_bare.ensures) c.put-2.ensures
