use Rattle.html_text.proofs.Wrote.{wrote}
use Rattle.manual_sections.proofs.sections.put_label.Goals as goal

pub returns : goal.returns
returns g c = wrote c.put_path.ensures c.put_numbered.ensures
