use Rattle.html_text.proofs.Wrote.{wrote}
use Rattle.html_manual.proofs.interrupts.put_pin_line.Goals as goal

pub returns : goal.returns
returns g c = wrote (wrote c.put.ensures c.put_pin.ensures) c.put-2.ensures
