use Rattle.html_text.proofs.Wrote.{wrote}
use Rattle.html_manual.proofs.signals.put_signal.Goals as goal

pub returns : goal.returns
returns g c = wrote (wrote c.put_cells.ensures c.put_texts.ensures) c.put.ensures
