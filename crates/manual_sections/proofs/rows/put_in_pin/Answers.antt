use Rattle.html_text.proofs.Wrote.{wrote}
use Rattle.manual_sections.proofs.rows.put_in_pin.Goals as goal

pub returns : goal.returns
returns g c = wrote c.put.ensures c.put_pin_name.ensures
