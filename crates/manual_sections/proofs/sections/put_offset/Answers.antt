use Rattle.html_text.proofs.Wrote.{wrote}
use Rattle.manual_sections.proofs.sections.put_offset.Goals as goal

pub returns : goal.returns
returns g c = wrote c.put_address.ensures c.put_entry_strides.ensures
