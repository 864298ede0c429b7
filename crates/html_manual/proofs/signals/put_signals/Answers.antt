use Rattle.html_text.proofs.Wrote.{wrote}
use Rattle.html_manual.proofs.signals.put_signals.Goals as goal

pub returns : goal.returns
returns g c = wrote (wrote c.put_signals_head.ensures c.put_rows.ensures) c.put.ensures
