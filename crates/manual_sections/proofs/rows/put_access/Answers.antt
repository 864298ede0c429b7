use Rattle.html_text.proofs.Wrote.{wrote}
use Rattle.manual_sections.proofs.rows.put_access.Goals as goal

pub returns : goal.returns
returns g c = wrote (wrote (wrote (wrote c.put.ensures c.put_software.ensures) c.put-2.ensures) c.put_hardware.ensures) c.put-3.ensures
