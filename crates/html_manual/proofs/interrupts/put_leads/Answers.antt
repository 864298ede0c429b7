use Rattle.html_text.proofs.Wrote.{wrote}
use Rattle.html_manual.proofs.interrupts.put_leads.Goals as goal

pub returns : goal.returns
returns g c = wrote (wrote (wrote c.put.ensures c.put_pin_line.ensures) c.put_users.ensures) c.put-2.ensures
