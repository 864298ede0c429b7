use Rattle.html_text.proofs.Wrote.{wrote}
use Rattle.manual_sections.proofs.sections.put_heading.Goals as goal

pub returns : goal.returns
returns g c = wrote (wrote c.put_three.ensures c.put_label.ensures) c.put.ensures
