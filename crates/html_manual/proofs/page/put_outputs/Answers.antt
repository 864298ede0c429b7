use Rattle.html_text.proofs.Wrote.{wrote}
use Rattle.html_manual.proofs.page.put_outputs.Goals as goal

pub returns : goal.returns
returns g c = wrote c.put_all_interrupts.ensures c.put_all_signals.ensures
