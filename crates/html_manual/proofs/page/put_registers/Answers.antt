use Rattle.html_text.proofs.Wrote.{wrote}
use Rattle.html_manual.proofs.page.put_registers.Goals as goal

pub returns : goal.returns
returns g c = wrote c.put_all_addresses.ensures c.put_all_sections.ensures
