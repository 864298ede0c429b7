use Rattle.html_text.proofs.Wrote.{wrote}
use Rattle.manual_sections.proofs.sections.put_diagram.Goals as goal

pub returns : goal.returns
returns g c = wrote (wrote c.put.ensures c.put_entry_halves.ensures) c.put-2.ensures
