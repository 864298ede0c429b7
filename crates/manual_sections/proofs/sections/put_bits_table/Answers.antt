use Rattle.html_text.proofs.Wrote.{wrote}
use Rattle.manual_sections.proofs.sections.put_bits_table.Goals as goal

pub returns : goal.returns
returns g c = wrote (wrote (wrote (wrote c.put_caption.ensures c.put_bit_heads.ensures) c.put_lane.ensures) c.put_lane-2.ensures) c.put.ensures
