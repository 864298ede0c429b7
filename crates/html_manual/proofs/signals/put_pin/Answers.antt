use Rattle.html_text.proofs.Wrote.{wrote}
use Rattle.html_manual.proofs.signals.put_pin.Goals as goal

pub returns : goal.returns
returns g c = wrote (wrote c.put.ensures c.put_signal_name.ensures) c.put-2.ensures
