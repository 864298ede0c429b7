use Rattle.html_text.proofs.Wrote.{wrote}
use Rattle.html_manual.proofs.interrupts.put_halt_row.Goals as goal

pub returns : goal.returns
returns g c = wrote (wrote (wrote (wrote c.put_output_name.ensures c.put_halt_raised.ensures) c.put.ensures) c.put_halt_leads.ensures) c.put-2.ensures
