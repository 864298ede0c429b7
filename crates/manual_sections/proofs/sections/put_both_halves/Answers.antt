use Rattle.html_text.proofs.Wrote.{wrote}
use Rattle.manual_sections.proofs.sections.put_both_halves.Goals as goal

pub returns : goal.returns
returns g c = wrote c.put_bits_table.ensures c.put_bits_table-2.ensures
