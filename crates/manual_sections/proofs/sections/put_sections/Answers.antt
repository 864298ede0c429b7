use Rattle.html_text.proofs.Wrote.{wrote}
use Rattle.manual_sections.proofs.sections.put_sections.Goals as goal

pub returns : goal.returns
returns g c = wrote c.put.ensures c.put_each_section.ensures
