use Rattle.html_text.proofs.Wrote.{wrote}
use Rattle.manual_sections.proofs.sections.put_at.Goals as goal

pub returns : goal.returns
returns g c = wrote (wrote (wrote (wrote c.put.ensures c.put_offset.ensures) c.put-2.ensures) c.put_bits_of.ensures) c.put-3.ensures
