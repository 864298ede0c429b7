use Rattle.html_text.proofs.Wrote.{wrote}
use Rattle.html_manual.proofs.interrupts.put_outputs.Goals as goal

pub returns : goal.returns
returns g c = wrote c.put_if_intr.ensures c.put_if_halt.ensures
