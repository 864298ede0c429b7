use Rattle.html_text.proofs.Wrote.{wrote}
use Rattle.html_manual.proofs.enumerations.put_sections.Goals as goal

pub returns : goal.returns
returns g c = wrote c.put.ensures c.put_each.ensures
