use Rattle.html_manual.proofs.signals.put_signals_head.Goals as goal

pub returns : goal.returns
returns g c = c.put.ensures
