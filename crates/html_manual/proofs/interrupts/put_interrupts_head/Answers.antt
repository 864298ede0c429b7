use Rattle.html_manual.proofs.interrupts.put_interrupts_head.Goals as goal

pub returns : goal.returns
returns g c = c.put.ensures
