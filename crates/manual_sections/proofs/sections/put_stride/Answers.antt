use Rattle.html_text.proofs.Wrote.{wrote}
use Rattle.manual_sections.proofs.sections.put_stride.Goals as goal

pub returns : goal.returns
returns g c = wrote (wrote (wrote c.put.ensures c.put_stride_hex.ensures) c.put-2.ensures) c.put_place.ensures
