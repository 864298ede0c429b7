use Rattle.html_text.proofs.Wrote.{wrote}
use Rattle.html_manual.proofs.addresses.put_place_cells.Goals as goal

pub returns : goal.returns
returns g c = wrote (wrote (wrote (wrote c.put.ensures c.put_offset.ensures) c.put-2.ensures) c.put_bits_of.ensures) c.put-3.ensures
