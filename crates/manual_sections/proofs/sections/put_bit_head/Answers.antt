use Rattle.html_text.proofs.Wrote.{wrote}
use Rattle.manual_sections.proofs.sections.put_bit_head.Goals as goal

pub returns : goal.returns
returns g c = wrote (wrote c.put.ensures c.put_number.ensures) c.put-2.ensures
