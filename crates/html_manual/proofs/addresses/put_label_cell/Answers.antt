use Rattle.html_text.proofs.Wrote.{wrote}
use Rattle.html_manual.proofs.addresses.put_label_cell.Goals as goal

pub returns : goal.returns
returns g c = wrote (wrote c.put_three.ensures c.put_label.ensures) c.put.ensures
