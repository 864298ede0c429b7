use Rattle.html_text.proofs.Wrote.{wrote}
use Rattle.html_manual.proofs.signals.put_cells.Goals as goal

pub returns : goal.returns
returns g c = wrote (wrote (wrote (wrote (wrote (wrote c.put.ensures c.put_place.ensures) c.put-2.ensures) c.put_pin.ensures) c.put-3.ensures) c.put_small.ensures) c.put-4.ensures
